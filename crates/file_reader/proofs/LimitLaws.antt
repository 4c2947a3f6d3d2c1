-- A field that is not refused lies inside the file, and keeps the counts within the limits.
use mathlib.Core.Path.{◌≡◌, refl}
use mathlib.Core.Logic.{◌⊎◌, inl, inr}
use mathlib.Core.Bool.{Bool, true, false, cond, not, ◌&&◌, false≢true, true≢false}
use mathlib.Core.List.{List}
use Prim.Native.Nat.{ℕ, zero, suc, ◌+◌, ◌-◌, ◌*◌, ◌≤◌, ◌<◌}
use native.Mathlib.Omega.{arith}
use lib.ListN.{length}
use lib.Dec.{eqb, ltb, leb}
use borrow.Author.Tests.{eqb-true, ltb-false, leb-false, leb-true, not-false}
use Rattle.relation.proofs.ListLaws.{or_none_right}
use Rattle.model.specs.Limits.{most_rules, most_tests, most_initial, most_main, most_checks}
use Rattle.file_format.specs.declared.Counts.{Counts}
use Rattle.file_format.specs.Bytes.{byte, half}
use Rattle.file_format.specs.File.{head_length, last_tag, is_tag, is_wide, kind_of, is_check, body_length, out_of_order, over_test, over_limit, body_fault, fault_of, field_end, body_at}
use Rattle.file_format.specs.Scan.{counted}
use Rattle.file_reader.specs.Limits.{Within, longest_field, longest_check, longest_rule, longest_test, longest}

-- what is known of a field that is not refused
pub record Clean (s : List ℕ) (at : ℕ) (c : Counts) : Type 0 where
  pub whole : head_length ≤ length s - at
  pub tag : is_tag (byte s at) ≡ true
  pub order : out_of_order (kind_of (byte s at)) c ≡ false
  pub limit : over_limit (kind_of (byte s at)) c ≡ false
  pub size : half s (at + 1) ≡ body_length (byte s at)
  pub room : body_length (byte s at) ≤ length s - (at + head_length)
  pub body : body_fault (byte s at) (body_at s at) ≡ 0

peel : (b : Bool) (k rest : ℕ) → cond b (suc k) rest ≡ 0 → (b ≡ false) × (rest ≡ 0)
peel true k rest e = absurd (omega arith)
peel false k rest e = (refl, e)

module _ (s : List ℕ) (at : ℕ) (c : Counts) where
  pub clean : fault_of s at c ≡ 0 → Clean s at c
  unfolding fault_of
  clean e =
      let a = peel (ltb (length s - at) head_length) 0 _ e in
      let b = peel (not (is_tag (byte s at))) 1 _ a.1 in
      let d = peel (out_of_order (kind_of (byte s at)) c) 3 _ b.1 in
      let f = peel (over_limit (kind_of (byte s at)) c) 5 _ d.1 in
      let g = peel (not (eqb (half s (at + 1)) (body_length (byte s at)))) 2 _ f.1 in
      let h = peel (ltb (length s - (at + head_length)) (body_length (byte s at))) 0 _ g.1 in
      record {
        whole = ltb-false _ _ a.0;
        tag = not-false _ b.0;
        order = d.0;
        limit = f.0;
        size = eqb-true _ _ (not-false _ g.0);
        room = ltb-false _ _ h.0;
        body = h.1;
      }

  -- it ends inside the file
  pub clean_fits : Clean s at c → field_end s at ≤ length s
  clean_fits k =
      let a = k.whole in let b = k.room in
      omega arith

-- a tag is one of ten
pub by_tag : (P : ℕ → Type 0) → P 1 → P 2 → P 3 → P 4 → P 5 → P 6 → P 7 → P 8 → P 9 → P 10 → (tag : ℕ) → is_tag tag ≡ true → P tag
unfolding is_tag
by_tag P a b c d e f g h i j zero k = absurd (false≢true k)
by_tag P a b c d e f g h i j (suc zero) k = a
by_tag P a b c d e f g h i j (suc (suc zero)) k = b
by_tag P a b c d e f g h i j (suc (suc (suc zero))) k = c
by_tag P a b c d e f g h i j (suc (suc (suc (suc zero)))) k = d
by_tag P a b c d e f g h i j (suc (suc (suc (suc (suc zero))))) k = e
by_tag P a b c d e f g h i j (suc (suc (suc (suc (suc (suc zero)))))) k = f
by_tag P a b c d e f g h i j (suc (suc (suc (suc (suc (suc (suc zero))))))) k = g
by_tag P a b c d e f g h i j (suc (suc (suc (suc (suc (suc (suc (suc zero)))))))) k = h
by_tag P a b c d e f g h i j (suc (suc (suc (suc (suc (suc (suc (suc (suc zero))))))))) k = i
by_tag P a b c d e f g h i j (suc (suc (suc (suc (suc (suc (suc (suc (suc (suc zero)))))))))) k = j
by_tag P a b c d e f g h i j (suc (suc (suc (suc (suc (suc (suc (suc (suc (suc (suc n))))))))))) k =
    let w = leb-true (suc (suc (suc (suc (suc (suc (suc (suc (suc (suc (suc n))))))))))) last_tag (rest (leb 1 (suc (suc (suc (suc (suc (suc (suc (suc (suc (suc (suc n)))))))))))) _ k) in
    absurd (omega arith)
  where
    rest : (x y : Bool) → x && y ≡ true → y ≡ true
    rest true y q = q
    rest false y q = absurd (false≢true q)

-- and its kind one of seven
pub by_kind : (P : ℕ → Type 0) → P 1 → P 2 → P 3 → P 4 → P 5 → P 6 → P 7 → (tag : ℕ) → is_tag tag ≡ true → P (kind_of tag)
unfolding kind_of is_wide
by_kind P a b c d e f g = by_tag (λ tag. P (kind_of tag)) a b c d e f g a b c

-- a field of a test: there is room for the test, and it is the test's first or within the test's limit
room : (c : Counts) → Within c → (o : Bool) → cond c.begun o (leb most_tests c.tests) ≡ false
    → (c.tests < most_tests) × ((o ≡ false) ⊎ ((c.initial ≡ 0) × (c.main ≡ 0) × (c.checks ≡ 0)))
room c w o e = go c.begun refl e
  where
    go : (b : Bool) → c.begun ≡ b → cond b o (leb most_tests c.tests) ≡ false
        → (c.tests < most_tests) × ((o ≡ false) ⊎ ((c.initial ≡ 0) × (c.main ≡ 0) × (c.checks ≡ 0)))
    go true q h = (w.begun q, inl h)
    go false q h = (leb-false _ _ h, inr (w.none q))

under : (k n : ℕ) {A : Type 0} → 0 < k → (A → n ≡ 0) → (leb k n ≡ false) ⊎ A → n < k
under k n p z (inl h) = leb-false _ _ h
under k n p z (inr a) = let e = z a in omega arith

module _ (c : Counts) (w : Within c) where
  rule-within : over_limit 3 c ≡ false → Within (counted 3 c)
  unfolding over_limit counted
  rule-within l =
      let h = leb-false most_rules c.rules l in
      record { rules = omega arith; tests = w.tests; begun = w.begun; initial = w.initial; main = w.main; checks = w.checks; none = w.none }

  initial-within : over_limit 1 c ≡ false → Within (counted 1 c)
  unfolding over_limit over_test counted
  initial-within l =
      let r = room c w (leb most_initial c.initial) l in
      let h = under most_initial c.initial (omega arith) (λ z. z.0) r.1 in
      record { rules = w.rules; tests = w.tests; begun = λ q. r.0; initial = omega arith; main = w.main; checks = w.checks; none = λ q. absurd (true≢false q) }

  main-within : over_limit 2 c ≡ false → Within (counted 2 c)
  unfolding over_limit over_test counted
  main-within l =
      let r = room c w (leb most_main c.main) l in
      let h = under most_main c.main (omega arith) (λ z. z.1) r.1 in
      record { rules = w.rules; tests = w.tests; begun = λ q. r.0; initial = w.initial; main = omega arith; checks = w.checks; none = λ q. absurd (true≢false q) }

  check_within : cond c.begun (leb most_checks c.checks) (leb most_tests c.tests) ≡ false
      → Within (record { rules = c.rules; tests = c.tests; begun = true; initial = c.initial; main = c.main; checks = c.checks + 1 })
  check_within l =
      let r = room c w (leb most_checks c.checks) l in
      let h = under most_checks c.checks (omega arith) (λ z. z.2) r.1 in
      record { rules = w.rules; tests = w.tests; begun = λ q. r.0; initial = w.initial; main = w.main; checks = omega arith; none = λ q. absurd (true≢false q) }

  end_within : over_limit 7 c ≡ false → Within (counted 7 c)
  unfolding over_limit over_test is_check counted
  end_within l =
      let r = room c w false l in
      let h = r.0 in
      record { rules = w.rules; tests = omega arith; begun = λ q. absurd (false≢true q); initial = omega arith; main = omega arith; checks = omega arith; none = λ q. (refl, refl, refl) }

  pub within-counted : (tag : ℕ) → is_tag tag ≡ true → over_limit (kind_of tag) c ≡ false → Within (counted (kind_of tag) c)
  unfolding over_limit over_test is_check counted
  within-counted =
      by_kind (λ kind. over_limit kind c ≡ false → Within (counted kind c)) initial-within main-within rule-within
      check_within check_within check_within end_within

  -- there is room for the test that a field belongs to
  pub counted-room : (tag : ℕ) → is_tag tag ≡ true → out_of_order (kind_of tag) c ≡ false → over_limit (kind_of tag) c ≡ false → c.tests < most_tests
  unfolding over_limit over_test is_check out_of_order
  counted-room =
      by_kind (λ kind. out_of_order kind c ≡ false → over_limit kind c ≡ false → c.tests < most_tests)
      (λ o l. (room c w _ l).0) (λ o l. (room c w _ l).0)
      (λ o l. let h = ltb-false 0 c.tests (or_none_right c.begun (ltb 0 c.tests) o) in omega arith)
      (λ o l. (room c w _ l).0) (λ o l. (room c w _ l).0) (λ o l. (room c w _ l).0) (λ o l. (room c w _ l).0)

-- how far a file can have been read at these counts
unfoldable pub spread : Counts → ℕ
spread c = longest_rule * c.rules + longest_test * c.tests + longest_field * (c.initial + c.main) + longest_check * c.checks

pub spread-counted : (c : Counts) → Within c → (at tag : ℕ) → is_tag tag ≡ true → at ≤ spread c → at + head_length + body_length tag ≤ spread (counted (kind_of tag) c)
unfolding spread counted body_length kind_of is_wide
spread-counted c w at tag h l =
    let i = w.initial in let m = w.main in let k = w.checks in
    by_tag (λ tag. at + head_length + body_length tag ≤ spread (counted (kind_of tag) c))
    (omega arith) (omega arith) (omega arith) (omega arith) (omega arith) (omega arith) (omega arith) (omega arith) (omega arith) (omega arith) tag h

pub spread-longest : (c : Counts) → Within c → spread c ≤ longest
unfolding spread
spread-longest c w = go c.begun refl
  where
    go : (b : Bool) → c.begun ≡ b → longest_rule * c.rules + longest_test * c.tests + longest_field * (c.initial + c.main) + longest_check * c.checks ≤ longest
    go true q =
        let r = w.rules in let t = w.begun q in let i = w.initial in let m = w.main in let k = w.checks in
        omega arith
    go false q =
        let r = w.rules in let t = w.tests in let z = w.none q in
        omega arith
