-- Numbers as bytes.
use mathlib.Core.Path.{◌≡◌, sym, ap, ◌∙◌}
use mathlib.Core.List.{List}
use Prim.Native.Nat.{ℕ, ◌+◌, ◌*◌, ◌/◌, ◌%◌, ◌<◌}
use native.Mathlib.Nat.{div-div-eq-div-mul}
use native.Mathlib.Omega.{arith}
use borrow.Author.Rules.{rules}
use Rattle.file_format.specs.Bytes.{half, word}

-- a number is that of its four bytes
pub number : (n : ℕ) → n < 4294967296 → (n / 16777216 % 256 * 256 + n / 65536 % 256) * 65536 + (n / 256 % 256 * 256 + n % 256) ≡ n
number n h =
    let e : n / 65536 ≡ n / 256 / 256 = sym (div-div-eq-div-mul n 256 256) in
    let d : n / 16777216 ≡ n / 256 / 256 / 256 = sym (div-div-eq-div-mul n 65536 256) ∙ ap (λ (m : ℕ). m / 256) e in
    let k : n / 256 / 256 / 256 % 256 ≡ n / 256 / 256 / 256 = omega arith in
    rw (d, e, k) (omega arith)

pub word_read : (s : List ℕ) (i h l : ℕ) → h ≡ half s i → l ≡ half s (i + 2) → h * 65536 + l ≡ word s i
unfolding word
word_read s i h l e q = rw (e, q)

pub ruleset bytes = (rules, word_read)
