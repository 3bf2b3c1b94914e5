-- What a step asks of its operands: the Rust's patterns `elabel!` and `match_first_two!`.
use Rattle.std.specs.Prelude.{◌≡◌, ℕ, Bool, true, false, cond, ◌&&◌, eqb, Option, Some, None}
use Rattle.word.specs.declared.U256.{U256}
use Rattle.labels.specs.declared.Label.{Label}
use Rattle.labels.specs.declared.Label.TheVariants.{Unlabelled, CallData, Arg, IsZeroResult}
use Rattle.labels.specs.declared.Val.{Val}
use Rattle.labels.specs.declared.Element.{Element}
use Rattle.labels.specs.declared.Choice.{Choice}

-- f of what an argument's label says; otherwise d
abbrev pub on_arg : {A : Type 0} → Label → (Val → A) → A → A
on_arg Unlabelled f d = d
on_arg CallData f d = d
on_arg (Arg v) f d = f v
on_arg (IsZeroResult v) f d = d

abbrev pub is_arg : Label → Bool
is_arg l = on_arg l (λ v. true) false

abbrev pub is_unlabelled : Label → Bool
is_unlabelled Unlabelled = true
is_unlabelled CallData = false
is_unlabelled (Arg v) = false
is_unlabelled (IsZeroResult v) = false

abbrev pub is_unmasked : Option U256 → Bool
is_unmasked None = true
is_unmasked (Some m) = false

-- `offset: 0, add_val: 0`
unfoldable pub is_length : Val → Bool
is_length v = eqb v.offset 0 && eqb v.add_val 0

-- these with `and_mask: None`
unfoldable pub is_unmasked_length : Val → Bool
is_unmasked_length v = is_length v && is_unmasked v.and_mask

-- a test in the code that answers as a definition does: `choose` promises its answer of those. No outcome is written
-- with it
abbrev pub AnswersAs : (Val → Bool → Type 0) → (Val → Bool) → Type 0
AnswersAs answers test = (v : Val) (b : Bool) → answers v b → b ≡ test v

-- the operand e, if it is an argument that the test takes, beside the other one; otherwise d
abbrev pub chosen_or : (Val → Bool) → Element → Element → Option Choice → Option Choice
chosen_or test e other d = on_arg e.label (λ v. cond (test v) (Some (record { val = v; own = e.word; other = other })) d) d

-- `match_first_two!`: the first operand if it is an argument that the test takes, else the second if it is one
unfoldable pub choose : (Val → Bool) → Element → Element → Option Choice
choose test a b = chosen_or test a b (chosen_or test b a None)

-- do two labels speak of one argument with one constant added?
unfoldable pub same_arg : Val → Val → Bool
same_arg v w = eqb v.offset w.offset && eqb v.path w.path && eqb v.add_val w.add_val

-- is it the length at that path: kind 2, offset 0, that path, added 0, masked or not (decision D10)?
unfoldable pub is_length_of : ℕ → Label → Bool
is_length_of path l = on_arg l (λ v. is_length v && eqb v.path path) false
