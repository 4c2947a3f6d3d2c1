-- What stays true of a book: a cache can hold it under the opened rules, and its writes are of the right widths.
use mathlib.Core.Path.{◌≡◌, refl, subst}
use mathlib.Core.Logic.{inl, inr}
use mathlib.Core.Bool.{false}
use mathlib.Core.List.{List, [], ◌∷◌, ◌++◌}
use Prim.Native.Nat.{ℕ, zero, suc, ◌<◌}
use lib.ListN.{length, get_or}
use Rattle.model.specs.Limits.{most_held}
use Rattle.model.specs.declared.Write.{Write}
use Rattle.model.specs.declared.Rule.{Rule}
use Rattle.model.specs.Rules.{DependsOn}
use Rattle.model.specs.Schedule.{no_write, write_at, label_at}
use Rattle.model.specs.Needs.{Needs, NeedsRing, Late, ready}
use Rattle.file_format.specs.Encode.{WriteFits}
use Rattle.cache_model.specs.Entries.{entry, accepted, flag_at, appended, Holdable}
use Rattle.cache_model.specs.State.{state_of}
use Rattle.cache_model.specs.Sound.{Sound}
use Rattle.cache_statelaws.proofs.EntryLaws.{length-flagging, write-flagging}
use Rattle.cache_statelaws.proofs.LayoutLaws.{Worded}
use Rattle.cache_statelaws.proofs.SoundLaws.{holdable_sound}
use Rattle.cache_soundlaws.proofs.HoldableLaws.{holdable_flagging, holdable_appended, each-appended}
use Rattle.run_laws.specs.Book.{Book, step_entered, steps_entered}

pub needs-by-rule : (rules : List Rule) (ws : List Write) (i j : ℕ) → i < length ws → j < length ws → DependsOn rules (label_at ws i) (label_at ws j) → Needs rules ws i j
unfolding Needs
needs-by-rule rules ws i j hi hj d = (hi, hj, inl d)

pub needs-by-address : (rules : List Rule) (ws : List Write) (i j : ℕ) → i < length ws → j < length ws → j < i → (write_at ws j).address ≡ (write_at ws i).address → Needs rules ws i j
unfolding Needs
needs-by-address rules ws i j hi hj l e = (hi, hj, inr (l, e))

-- ---- what stays true

pub record Lawful (rules : List Rule) (b : Book) : Type 0 where
  pub fine : Holdable rules b
  pub fits : (j : ℕ) → j < length b → WriteFits (get_or b j (entry no_write false)).write

pub lawful_words : (rules : List Rule) (b : Book) → Lawful rules b → Worded b
lawful_words rules b f j h = let w = f.fits j h in (w.epoch, w.block)

-- a step
pub lawful_stepped : (rules : List Rule) (b : Book) → Lawful rules b → Lawful rules (step_entered rules b)
unfolding step_entered
lawful_stepped rules b f =
    let k = ready rules (accepted b) (flag_at b) in
    record {
      fine = holdable_flagging rules b k f.fine refl;
      fits = λ j l. rw (write-flagging b k j) (f.fits j (subst (λ (n : ℕ). j < n) (length-flagging b k) l));
    }

pub lawful_steps : (rules : List Rule) (n : ℕ) (b : Book) → Lawful rules b → Lawful rules (steps_entered rules n b)
unfolding steps_entered
lawful_steps rules zero b f = f
lawful_steps rules (suc n) b f = lawful_steps rules n (step_entered rules b) (lawful_stepped rules b f)

-- a hand-in
pub lawful_appended : (rules : List Rule) (b : Book) (w : Write) → Lawful rules b → length b < most_held → WriteFits w → (Late rules (accepted b) (flag_at b) w → ⊥)
    → (NeedsRing rules (accepted b ++ (w ∷ [])) → ⊥) → Lawful rules (appended b w)
lawful_appended rules b w f h fw late ring =
    record { fine = holdable_appended rules b w f.fine h late ring; fits = each-appended WriteFits b w f.fits fw }

-- the bytes of such a book are a sound state
pub lawful_sound : (rules : List Rule) (b : Book) → Lawful rules b → Sound (state_of rules b)
lawful_sound rules b f = holdable_sound rules b f.fine (lawful_words rules b f)
