use Rattle.image.proofs.Promises.{promised}
use Rattle.image.proofs.judge.Goals as goal

pub returns : goal.returns
returns c = promised _ _ _ _ c.fields-scan.ensures c.whole.ensures
