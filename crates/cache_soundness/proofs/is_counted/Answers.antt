-- `cache_soundness::is_counted` meets its contract: the mask has as many ones as flags are set.
use Rattle.cache_soundness.proofs.SoundSteps.{counting}
use Rattle.cache_soundness.proofs.is_counted.Goals as goal

pub returns : goal.returns
returns c = search counting
