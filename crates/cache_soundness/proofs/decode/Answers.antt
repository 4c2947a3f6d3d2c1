-- `cache_soundness::decode` meets its contract: one law for each part of the test that fails, and one where all hold.
use native.Mathlib.Omega.{arith}
use Rattle.cache_soundness.proofs.SoundSteps.{decoding, all-ruled}
use mathlib.Core.Path.{ap}
use mathlib.Core.Bool.{not}
use Rattle.cache_soundness.proofs.decode.Goals as goal

pub returns-then-not-is_framed : goal.returns-then-not-is_framed
returns-then-not-is_framed c = search decoding

pub stored_mask-stored-requires : goal.stored_mask-stored-requires
stored_mask-stored-requires c = search decoding

pub returns-then-not-is_counted : goal.returns-then-not-is_counted
returns-then-not-is_counted c = search decoding

pub state_rules-rules-requires : goal.state_rules-rules-requires
state_rules-rules-requires c = search decoding

pub is_known-requires : goal.is_known-requires
is_known-requires c = search decoding

pub returns-then-not-is_known : goal.returns-then-not-is_known
returns-then-not-is_known c = search decoding

pub is_cyclic-requires : goal.is_cyclic-requires
is_cyclic-requires c = search decoding

pub returns-then-is_cyclic : goal.returns-then-is_cyclic
returns-then-is_cyclic c = search decoding

pub returns : goal.returns
returns c = (
  all-ruled _ _ c.is_framed.ensures (ap not c.if-not-is_framed.false) _ _ _ c.state_rules-rules.result c.is_counted.ensures (ap not c.if-not-is_counted.false) c.state_rules-rules.ensures.0
      c.requires (λ i. omega (arith, c.type_inv.state i)) c.is_known.ensures (ap not c.if-not-is_known.false) c.is_cyclic.ensures c.if-is_cyclic.false,
  search decoding,
)
