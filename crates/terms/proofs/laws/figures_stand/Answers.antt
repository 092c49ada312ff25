use Rattle.terms.proofs.Table.{figures_stand}
use Rattle.terms.proofs.laws.figures_stand.Goals as goal

pub returns : goal.returns
returns c = figures_stand
