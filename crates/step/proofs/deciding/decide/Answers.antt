use Rattle.std.proofs.Common.{arith, sym, ◌∙◌}
use Rattle.step.proofs.Refusing.{fit_width, fit_op, long_code, broken_sizes, broken_labels, broken_fields, no_slot, has_passed}
use Rattle.step.proofs.deciding.decide.Goals as goal

pub returns-then-code-gt-CODE_MAX : goal.returns-then-code-gt-CODE_MAX
returns-then-code-gt-CODE_MAX c = long_code _ _ _ _ _ _ _ c.requires c.if-code-gt-CODE_MAX.true

pub returns-then-not-sizes_fit : goal.returns-then-not-sizes_fit
returns-then-not-sizes_fit c =
    broken_sizes _ _ _ _ _ _ _ c.requires c.if-code-gt-CODE_MAX.false _ c.sizes_fit.ensures c.if-not-sizes_fit.true

pub labels_fit-requires : goal.labels_fit-requires
labels_fit-requires c = fit_width _ _ _ (sym c.sizes_fit.ensures ∙ c.if-not-sizes_fit.false)

pub returns-then-not-labels_fit : goal.returns-then-not-labels_fit
returns-then-not-labels_fit c =
    broken_labels _ _ _ _ _ _ _ c.requires c.if-code-gt-CODE_MAX.false _ c.sizes_fit.ensures c.if-not-sizes_fit.false _ c.labels_fit.ensures
    c.if-not-labels_fit.true

pub fields_fit-requires : goal.fields_fit-requires
fields_fit-requires c = fit_width _ _ _ (sym c.sizes_fit.ensures ∙ c.if-not-sizes_fit.false)

pub returns-then-not-fields_fit : goal.returns-then-not-fields_fit
returns-then-not-fields_fit c =
    broken_fields _ _ _ _ _ _ _ c.requires c.if-code-gt-CODE_MAX.false _ c.sizes_fit.ensures c.if-not-sizes_fit.false _ c.labels_fit.ensures
    c.if-not-labels_fit.false _ c.fields_fit.ensures c.if-not-fields_fit.true

pub bounds-numbers-0 : goal.bounds-numbers-0
bounds-numbers-0 c = let w = fit_width _ _ _ (sym c.sizes_fit.ensures ∙ c.if-not-sizes_fit.false) in omega arith

pub overflow_cast-numbers : goal.overflow_cast-numbers
overflow_cast-numbers c = let w = fit_op _ _ (sym c.fields_fit.ensures ∙ c.if-not-fields_fit.false) in omega arith

pub returns-then-not-slot_there : goal.returns-then-not-slot_there
returns-then-not-slot_there c =
    no_slot _ _ _ _ _ _ _ c.requires c.if-code-gt-CODE_MAX.false _ c.sizes_fit.ensures c.if-not-sizes_fit.false _ c.labels_fit.ensures
    c.if-not-labels_fit.false _ c.fields_fit.ensures c.if-not-fields_fit.false _ c.slot_there.ensures c.if-not-slot_there.true

pub plan_step-requires : goal.plan_step-requires
plan_step-requires c =
    has_passed _ _ _ _ _ _ _ c.requires c.if-code-gt-CODE_MAX.false _ c.sizes_fit.ensures c.if-not-sizes_fit.false _ c.labels_fit.ensures
    c.if-not-labels_fit.false _ c.fields_fit.ensures c.if-not-fields_fit.false _ c.slot_there.ensures c.if-not-slot_there.false
