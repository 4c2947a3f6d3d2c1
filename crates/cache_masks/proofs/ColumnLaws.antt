-- The writes of three columns: what each is, alone and with a write behind them, and that they stand for other writes with the same addresses and labels.
use mathlib.Core.Path.{◌≡◌, ◌∙◌}
use mathlib.Core.List.{List, [], ◌∷◌, ◌++◌}
use Prim.Native.Nat.{ℕ, ◌<◌}
use native.Mathlib.Omega.{arith}
use lib.ListN.{length, get_or, get_or-append}
use lib.Seq.{get_or_at}
use Rattle.relation.proofs.ListLaws.{length-tabulate, get_or_tabulate}
use Rattle.model.specs.declared.Write.{Write}
use Rattle.model.specs.Schedule.{no_write, write_at}
use Rattle.model.proofs.NeedsLaws.{Alike}
use Rattle.cache_masks.specs.Columns.{columned}

module _ (addresses names epochs : List ℕ) (n : ℕ) where
  abbrev pub entry : ℕ → Write
  entry i = record { address = get_or addresses i 0; name = get_or names i 0; epoch = get_or epochs i 0; block = 0 }

  pub columned-length : length (columned addresses names epochs n) ≡ n
  unfolding columned
  columned-length = length-tabulate entry n

  pub columned-at : (i : ℕ) → i < n → write_at (columned addresses names epochs n) i ≡ entry i
  unfolding columned
  columned-at i h = get_or_tabulate entry n i no_write h

  -- with a write behind them
  pub front_at : (w : Write) (i : ℕ) → i < n → write_at (columned addresses names epochs n ++ (w ∷ [])) i ≡ entry i
  front_at w i h = get_or-append (columned addresses names epochs n) (w ∷ []) no_write i (omega (arith, columned-length)) ∙ columned-at i h

  pub last-at : (w : Write) → write_at (columned addresses names epochs n ++ (w ∷ [])) n ≡ w
  last-at w = get_or_at (columned addresses names epochs n) w [] no_write n columned-length

  -- they stand for other writes
  module _ (vs : List Write) (as_long : n ≡ length vs) (address : (i : ℕ) → i < n → get_or addresses i 0 ≡ (write_at vs i).address)
      (name : (i : ℕ) → i < n → get_or names i 0 ≡ (write_at vs i).name) (epoch : (i : ℕ) → i < n → get_or epochs i 0 ≡ (write_at vs i).epoch) where
    pub columned-alike : Alike (columned addresses names epochs n) vs
    columned-alike = record {
      as_long = columned-length ∙ as_long;
      address = λ i h. let l : i < n = omega (arith, columned-length, h) in rw (columned-at i l) (address i l);
      label = λ i h. let l : i < n = omega (arith, columned-length, h) in rw (columned-at i l, name i l, epoch i l);
    }
