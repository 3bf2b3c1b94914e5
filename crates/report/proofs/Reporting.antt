-- The text of each answer, and that it is the text of the closing's outcome.
use Prim.Native.Nat.{ℕ}
use mathlib.Core.Path.{◌≡◌, refl, sym, ap, subst}
use mathlib.Core.Bool.{Bool, true, false}
use mathlib.Core.List.{List}
use lib.Dec.{eqb}
use lib.ListN.{length, drop}
use borrow.Author.Tests.{eqb-true}
use Rattle.limits.specs.Refusal.{taken, number_of as refusal_number}
use Rattle.limits.specs.declared.refusal.Refusal.{Refusal}
use Rattle.types.specs.Tree.{AbiTypes, nil, well_formed}
use Rattle.types.specs.Codes.{codes, all_codes}
use Rattle.facts.specs.Formed.{Formed}
use Rattle.facts.specs.State.{Node}
use Rattle.facts.proofs.States.{sound_formed}
use Rattle.head.specs.Held.{Held, records_in, state_in}
use Rattle.head.specs.Asked.{FirstNo}
use Rattle.head.proofs.Asking.{taken_first}
use Rattle.kinds.proofs.KindSounds.{formed_fill}
use Rattle.list.specs.Seen.{children_in, is_empty}
use Rattle.list.specs.Budget.{fits_budget}
use Rattle.list.specs.Types.{list_of}
use Rattle.list_theorems.proofs.Granted.{list_count, list_passes}
use Rattle.names.specs.Ascii.{ascii}
use Rattle.spell.specs.Stored.{StoredAt, Stored}
use Rattle.trace.specs.Text.{refused_line}
use Rattle.trace.specs.Lines.{ListStored}
use Rattle.trace.proofs.Pieces.{stored_first}
use Rattle.closing.specs.declared.Closing.{Closing}
use Rattle.closing.specs.declared.Closing.TheVariants.{Nothing, Over}
use Rattle.std.specs.Prelude.{Ok, Err}
use Rattle.std.specs.declared.result.Result.{Result}
use Rattle.closing.specs.declared.Closing.TheVariants.{Granted as GrantedAnswer}
use Rattle.closing.specs.declared.Granted.{Granted}
use Rattle.closing.specs.Answer.{Verdict, refused, none, over, granted, verdict_of, answer_of, types_after}
use Rattle.closing.specs.Words.{Handed, fill_words, filled}
use Rattle.closing.specs.Call.{tests_of, questions, state_after, Outcome}
use Rattle.report.specs.Answer.{answer_text}
use Rattle.report.specs.Closed.{Reported}

module _ (said : Closing) (cs out : List ℕ) (from r : ℕ) (out' : List ℕ) where
  by : (v : Verdict) → verdict_of (Ok said) ≡ v → Reported v cs out from r out' → Reported (verdict_of (Ok said)) cs out from r out'
  by v e f = subst (λ (x : Verdict). Reported x cs out from r out') (sym e) f

  said_so : (f : Closing) → said ≡ f → verdict_of (Ok said) ≡ verdict_of (Ok f)
  said_so f e = ap (λ (x : Closing). verdict_of (Ok x)) e

  pub report_none : said ≡ Nothing → StoredAt (ascii "none\n") out from r out'
      → Reported (verdict_of (Ok said)) cs out from r out'
  unfolding answer_text
  report_none e s = by none (said_so Nothing e) (λ ts rest h c n. s)

  pub report_over : said ≡ Over → StoredAt (ascii "over\n") out from r out' → Reported (verdict_of (Ok said)) cs out from r out'
  unfolding answer_text
  report_over e s = by over (said_so Over e) (λ ts rest h c n. s)

  pub report_list : (g : Granted) → said ≡ GrantedAnswer g
      → ListStored g.entries g.left g.length cs out from r out' → Reported (verdict_of (Ok said)) cs out from r out'
  unfolding answer_text
  report_list g e f =
      by (granted g.entries g.left g.length) (said_so (GrantedAnswer g) e)
      (λ ts rest h c n. f ts rest record { formed = h; number = n; spelt = c })

-- refused
pub report_refused : (answer : Result Closing Refusal) (cs out : List ℕ) (from r : ℕ) (out' : List ℕ) (q : Refusal) (number : ℕ)
    → answer ≡ Err q → number ≡ refusal_number q → StoredAt (refused_line number 0) out from r out'
    → Reported (verdict_of answer) cs out from r out'
unfolding answer_text
report_refused answer cs out from r out' q number e n line = rw (e, ← n) (λ ts rest h c m. line)

-- the outcome's text
module _ (out : List ℕ) (from r : ℕ) (out' : List ℕ) where
  -- a refusal's text has no types
  refused_text : (k : ℕ) (v : Verdict) (cs : List ℕ) (ts : AbiTypes) → v ≡ refused k → Reported v cs out from r out'
      → StoredAt (answer_text v ts) out from r out'
  unfolding answer_text codes well_formed
  refused_text k v cs ts e f =
      let g = subst (λ (x : Verdict). Reported x cs out from r out') e f nil cs refl refl tt in
      subst (λ (x : Verdict). StoredAt (answer_text x ts) out from r out') (sym e) g

  -- the answer for facts that are formed
  module _ (s : List Node) (F : Formed s) (types cs : List ℕ) (ec : cs ≡ types_after s types) where
    cases : (a b : Bool) → a ≡ is_empty (children_in s 1) → b ≡ fits_budget s → Reported (answer_of s) cs out from r out'
        → StoredAt (answer_text (answer_of s) (list_of s)) out from r out'
    unfolding answer_text answer_of types_after codes well_formed
    cases true b ea eb f = rw (← ea) ((rw (← ea) at f) nil cs refl refl tt)
    cases false false ea eb f = rw (← ea, ← eb) ((rw (← ea, ← eb) at f) nil cs refl refl tt)
    cases false true ea eb f =
        let p = list_passes s F (sym eb) in
        rw (← ea, ← eb)
        ((rw (← ea, ← eb) at f) (list_of s) (drop (length (all_codes (list_of s))) types) p.spells.formed
        (rw (← ea, ← eb) at ec) (list_count s))

    answer_text_lem : (v : Verdict) → v ≡ answer_of s → Reported v cs out from r out'
        → StoredAt (answer_text v (list_of s)) out from r out'
    answer_text_lem v e f =
        let h = subst (λ (x : Verdict). Reported x cs out from r out') e f in
        let g = cases (is_empty (children_in s 1)) (fits_budget s) refl refl h in
        subst (λ (x : Verdict). StoredAt (answer_text x (list_of s)) out from r out') (sym e) g

  -- what is stored for the closing's answer is the text of its outcome, with the list of the facts after the fill
  outcome_text_at : (t t' : Held) (types types' : List ℕ) (h : Handed) (v : Verdict) → Outcome t types h v t' types'
      → Reported v types' out from r out' → StoredAt (answer_text v (list_of (state_after t h))) out from r out'
  unfolding filled
  outcome_text_at t t' types types' h v O f = go (eqb O.number taken) refl
    where
      go : (b : Bool) → b ≡ eqb O.number taken → StoredAt (answer_text v (list_of (state_after t h))) out from r out'
      go true e =
          let z = eqb-true O.number taken (sym e) in
          let S = (taken_first t (tests_of t h types) (subst (FirstNo (questions t h types)) z O.asked)).1.sound in
          answer_text_lem (state_after t h)
          (formed_fill (state_in t) (fill_words (state_in t) h) (sound_formed t.table t.head.used (records_in t) S))
          types types' (rw (← e) at O.writes) v (rw (← e) at O.answers) f
      go false e = refused_text _ v types' (list_of (state_after t h)) (rw (← e) at O.answers) f

-- THE CLOSING'S TEXT: from the start of the slice on, that text is stored
pub outcome_text : (out : List ℕ) (r : ℕ) (out' : List ℕ) (t t' : Held) (types types' : List ℕ) (h : Handed) (v : Verdict)
    → Outcome t types h v t' types' → Reported v types' out 0 r out'
    → Stored (answer_text v (list_of (state_after t h))) out r out'
outcome_text out r out' t t' types types' h v O f =
    stored_first out out' r (answer_text v (list_of (state_after t h)))
    (outcome_text_at out 0 r out' t t' types types' h v O f)
