-- Cuts of a run: the moments inside a call and after a call are among `moments`.
use mathlib.Core.Path.{refl}
use mathlib.Core.List.Memᴰ
use mathlib.Core.List.{List, [], ◌∷◌, ◌++◌, Memᴰ}
use Rattle.model.specs.declared.Rule.{Rule}
use Rattle.run_laws.specs.Run.{Call, next, after, passed, inner, Moment, moments}

-- the moment after the first of some calls is one that is passed
pub passed-after : (rules : List Rule) (cs ds : List Call) (m : Moment) → Memᴰ (after rules cs m) (passed rules (cs ++ ds) m)
unfolding after passed
passed-after rules [] [] m = Memᴰ.head refl
passed-after rules [] (d ∷ ds) m = Memᴰ.head refl
passed-after rules (c ∷ cs) ds m = Memᴰ.tail (passed-after rules cs ds (next rules c m))

-- a run can be cut at each moment of each of its calls
pub cut_inside : (rules : List Rule) (cs ds : List Call) (c : Call) (m n : Moment) → Memᴰ n (inner rules c (after rules cs m))
    → Memᴰ n (moments rules (cs ++ (c ∷ ds)) m)
unfolding after moments
cut_inside rules [] ds c m n h = Memᴰ.append_left _ h
cut_inside rules (b ∷ cs) ds c m n h = Memᴰ.append_right (inner rules b m) (cut_inside rules cs ds c (next rules b m) n h)

-- the moment after some of the calls is one of the run's
pub cut_after : (rules : List Rule) (cs ds : List Call) (m : Moment) → Memᴰ (after rules cs m) (moments rules (cs ++ ds) m)
unfolding after moments inner
cut_after rules [] [] m = Memᴰ.head refl
cut_after rules [] (d ∷ ds) m = Memᴰ.append_left _ (passed-after rules [] _ m)
cut_after rules (c ∷ cs) ds m = Memᴰ.append_right (inner rules c m) (cut_after rules cs ds (next rules c m))
