-- `cache_steps::drain_sound` meets its contract. The invariant: the state is sound, rows has its needs and done its stored writes, and after so many rounds state and disk are those after so many steps, in their order.
use mathlib.Core.Path.{◌≡◌}
use mathlib.Core.Bool.{true}
use Prim.Native.Nat.{◌≤◌}
use lib.ListN.{length}
use Rattle.relation.specs.Bits.{mask_of}
use Rattle.file_format.specs.Bytes.{disk_length}
use Rattle.cache_model.specs.State.{state_size, accepted_count, stored_in}
use Rattle.cache_model.specs.Sound.{sound}
use Rattle.cache_soundness.specs.Parts.{Tabled}
use Rattle.cache_steps.proofs.StepLaws.{Drains}
use Rattle.cache_steps.proofs.drain_sound.Given as goal

abbrev pub invariant-loop-n : goal.invariant-loop-n
invariant-loop-n l = (l.stored ≤ l.n) × (l.n ≤ l.accepted) × (length l.state ≡ state_size) × (length l.disk ≡ disk_length) × (sound l.state ≡ true) × Tabled l.state l.rows × (l.done ≡ mask_of (stored_in l.state) (accepted_count l.state)) × Drains l.initial.state l.initial.disk l.accepted l.stored l.state l.disk l.n
