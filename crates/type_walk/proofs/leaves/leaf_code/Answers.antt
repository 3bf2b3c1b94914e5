use Rattle.type_walk.proofs.LeafLaws.{leaf_else, leaf_unnamed, leaf_named}
use Rattle.type_walk.proofs.leaves.leaf_code.Goals as goal

pub returns-then-child-kind : goal.returns-then-child-kind
returns-then-child-kind c =
    leaf_else _ _ _ _ c.requires.sound c.requires.le_c.0 c.requires.le_c.1 _ _ c.child.ensures c.kind.ensures _ c.is_seen.ensures
    c.if-not-is_seen.false c.if-child-kind.true

pub returns-then-name-eq-NO_NAME : goal.returns-then-name-eq-NO_NAME
returns-then-name-eq-NO_NAME c =
    leaf_unnamed _ _ _ _ c.requires.sound c.requires.le_c.0 c.requires.le_c.1 _ _ c.child.ensures c.kind.ensures _ c.is_seen.ensures
    c.if-not-is_seen.false c.if-child-kind.false _ c.name-name.ensures c.if-name-eq-NO_NAME.true

pub returns-else-name-eq-NO_NAME : goal.returns-else-name-eq-NO_NAME
returns-else-name-eq-NO_NAME c =
    leaf_named _ _ _ _ c.requires.sound c.requires.le_c.0 c.requires.le_c.1 _ _ c.child.ensures c.kind.ensures _ c.is_seen.ensures
    c.if-not-is_seen.false c.if-child-kind.false _ c.name-name.ensures c.if-name-eq-NO_NAME.false
