-- `file_reader::read` meets its contract. The invariant, `Going`: from here on the scan goes as the definition does from the front.
use mathlib.Core.Path.{refl, ◌∙◌}
use Rattle.file_reader.proofs.ReadLaws.{reads_on, start_fresh, next}
use Rattle.file_reader.proofs.read.Goals as goal

pub loop-at-init : goal.loop-at-init
loop-at-init c = start_fresh _ _ c.default-st.result c.default-st.ensures refl

pub returns-in-Err : goal.returns-in-Err
returns-in-Err c = search reads_on

pub half_at-requires : goal.half_at-requires
half_at-requires c = search reads_on

pub bounds-tests-st : goal.bounds-tests-st
bounds-tests-st c = search reads_on

pub loop-at-preserved : goal.loop-at-preserved
loop-at-preserved c =
    next _ _ _ _ c.loop-at.invariant c.loop-at-test.true _ c.fault.ensures.refused _ c.in-Ok.is _ _ _
    (c.from.ensures ∙ c.half_at.ensures) c.in_hand.ensures c.in-Ok.ensures.kind c.advance-st.ensures

pub returns : goal.returns
returns c = search reads_on
