use Rattle.paths.proofs.lent.Facts.children.Goals as goal

pub returns : goal.returns
returns c = rw (c.links.ensures.0, c.links.ensures.1) at c.children.ensures
