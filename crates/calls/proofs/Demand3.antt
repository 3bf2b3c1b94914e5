-- `demand_3`, the theorem of specs/Demand3.antt.
use Prim.Native.Nat.{ℕ, zero, suc, ◌*◌, ◌-◌, ◌≤◌, ◌<◌}
use mathlib.Core.Path.{◌≡◌, refl, sym, ap, subst, ◌∙◌}
use mathlib.Core.Bool.{Bool, true, false, true≢false, false≢true, cond, ◌&&◌, and-eq-true_iff}
use mathlib.Core.Logic.{inl, inr}
use mathlib.Core.List.{List, [], ◌∷◌, ◌++◌}
use native.Mathlib.Omega.{arith}
use lib.Dec.{eqb, leb}
use borrow.Author.Tests.{eqb-true, eqb-false, leb-true, le-leb}
use Rattle.limits.specs.Limits.{budget_max, word_bytes, records_max}
use Rattle.limits.specs.Refusal.{taken}
use Rattle.types.specs.Tree.{AbiTypes, nil, cons, count, levels, most_levels}
use Rattle.facts.specs.Formed.{Formed}
use Rattle.facts.specs.State.{Node}
use Rattle.facts.proofs.States.{sound_formed}
use Rattle.head.specs.Held.{Held, records_in, state_in, HasRecords, IsSound}
use Rattle.head.specs.Asked.{FirstNo}
use Rattle.head.proofs.Asking.{taken_first}
use Rattle.head.specs.Fresh as fresh-call
use Rattle.head.specs.Fresh.{opened}
use Rattle.list.specs.Seen.{children_in, is_empty, last_word}
use Rattle.list.specs.Budget.{shallow, spend, fits_budget}
use Rattle.list.specs.Types.{list_of}
use Rattle.list_theorems.proofs.ListCodes.{list_codes}
use Rattle.list_theorems.proofs.ListFormed.{list_formed}
use Rattle.list_theorems.proofs.ListLevels.{list_levels}
use Rattle.list_theorems.proofs.Granted.{list_count}
use Rattle.list_theorems.specs.Entry.{entry_of}
use Rattle.paths.specs.Path.{AgreeAt}
use Rattle.list_theorems.proofs.EntrySame as entries
use Rattle.closing.specs.Words.{Handed, filled}
use Rattle.closing.specs.Answer.{Verdict, refused, none, over, granted, is_granted, answer_of, types_after}
use Rattle.closing.specs.Answer.{with_list}
use Rattle.closing.specs.Call.{tests_of, questions, state_after, answer_by, Outcome}
use Rattle.step.specs.Call as step_call
use Rattle.calls.specs.Facts.{Call, step, closing, start, known, step_refusal, closing_refusal}
use Rattle.calls.specs.Run.{Does, Run, held_of}
use Rattle.calls.specs.Terms.{SomeArgument, NoneDeeper, SumFits, WellListed}
use Rattle.calls.specs.Claims.{FirstOf, StepIn, ClosingIn, closing_state, NotRefused, JudgedBy, GrantedList}
use Rattle.calls.specs.Demand3.{OfLists, Demand3}
use Rattle.calls.proofs.Following.{Good, start_good, state, admitted, step_answers, closing_judged, run_held}
use Rattle.calls.proofs.Following.{run_there, filled_formed}
use Rattle.calls.proofs.TermLaws.{argument_child, child_argument, shallow_deeper, deeper_shallow}

-- which answer it is
abbrev kind_of : Verdict → ℕ
kind_of (refused n) = 0
kind_of none = 1
kind_of over = 2
kind_of (granted e l h) = 3

differ : (m n : ℕ) → eqb m n ≡ false → m ≡ n → ⊥
differ m n h e = eqb-false m n h e

-- the answer for facts, judged as the demand says
judged_so : (s : List Node) (v : Verdict) → Formed s → v ≡ answer_of s → JudgedBy s v
unfolding answer_of
judged_so s v F e = go (is_empty (children_in s 1)) refl (fits_budget s) refl e
  where
    fit_parts : fits_budget s ≡ true → NoneDeeper s × SumFits s
    fit_parts h =
        let p = (and-eq-true_iff (shallow s) (leb (spend s) budget_max)).0 h in
        (shallow_deeper s F p.0, leb-true (spend s) budget_max p.1)

    parts_fit : NoneDeeper s × SumFits s → fits_budget s ≡ true
    parts_fit p = λ i. deeper_shallow s F p.0 i && le-leb (spend s) budget_max p.1 i

    go : (a : Bool) → is_empty (children_in s 1) ≡ a → (b : Bool) → fits_budget s ≡ b
        → v ≡ cond a none (cond b (granted (suc (last_word s 1)) (budget_max - spend s) (word_bytes * suc (last_word s 1))) over) → JudgedBy s v
    go true ha b hb q =
        let no : SomeArgument s → ⊥ = λ A. true≢false (sym ha ∙ argument_child s F A) in
        record {
          grants = ((λ g. absurd (false≢true (sym (ap is_granted q) ∙ g))), λ p. absurd (no p.0));
          none_known = ((λ _. no), λ _. q);
          over_known = ((λ z. absurd (differ 1 2 refl (sym (ap kind_of q) ∙ ap kind_of z))), λ p. absurd (no p.0));
        }
    go false ha true hb q =
        let A = child_argument s F ha in
        record {
          grants = ((λ _. (A, (fit_parts hb).0, (fit_parts hb).1)), λ _. ap is_granted q);
          none_known = ((λ z. absurd (differ 3 1 refl (sym (ap kind_of q) ∙ ap kind_of z))), λ n. absurd (n A));
          over_known = ((λ z. absurd (differ 3 2 refl (sym (ap kind_of q) ∙ ap kind_of z))), λ p. absurd (p.1 (fit_parts hb)));
        }
    go false ha false hb q =
        let A = child_argument s F ha in
        let no : NoneDeeper s × SumFits s → ⊥ = λ p. false≢true (sym hb ∙ parts_fit p) in
        record {
          grants = ((λ g. absurd (false≢true (sym (ap is_granted q) ∙ g))), λ p. absurd (no (p.1, p.2)));
          none_known = ((λ z. absurd (differ 2 1 refl (sym (ap kind_of q) ∙ ap kind_of z))), λ n. absurd (n A));
          over_known = ((λ _. (A, no)), λ _. q);
        }

-- an answer that is no refusal is the one for the state after the fill
not_refused : (n : ℕ) (s : List Node) (v : Verdict) → v ≡ answer_by n s → NotRefused v → (n ≡ taken) × (v ≡ answer_of s)
not_refused n s v e z = go (eqb n taken) refl e
  where
    go : (b : Bool) → eqb n taken ≡ b → v ≡ cond b (answer_of s) (refused n) → (n ≡ taken) × (v ≡ answer_of s)
    go true k q = (eqb-true n taken k, q)
    go false k q = absurd (z n q)

-- a run split at a call
record Split (t : Held) (before : List Call) (c : Call) (behind : List Call) (t' : Held) : Type 0 where
  handed : Held
  ran : Run t before handed
  left : Held
  does : Does handed c left
  rest : Run left behind t'

split : (t : Held) (before : List Call) (c : Call) (behind : List Call) (t' : Held) → Run t (before ++ c ∷ behind) t'
    → Split t before c behind t'
split t [] c behind t' R = record { handed = t; ran = refl; left = R.0; does = R.1; rest = R.2 }
split t (b ∷ before) c behind t' R =
    let S = split R.0 before c behind t' R.2 in
    record { handed = S.handed; ran = (R.0, R.1, S.ran); left = S.left; does = S.does; rest = S.rest }

-- document 01: "A taken fresh call comes first and fixes the record count.": it leaves the head and the table from
-- which the lists of calls start
fresh_first : (N : ℕ) (t t' : Held) → fresh-call.Outcome t taken N t' → FirstOf N t'
fresh_first N t t' O = go O.asked
  where
    is : N ≡ records_in t
    is = O.counts

    go : FirstNo (fresh-call.questions t) taken → FirstOf N t'
    go (inl a) = absurd (let e = a.1 in omega arith)
    go (inr (C, e)) =
        let some = C.some in
        let most = C.most in
        record { some = omega arith; most = omega arith; leaves = O.leaves ∙ ap opened (sym is) }

-- an entry's levels are among the list's
entry_most : (ts : AbiTypes) (k : ℕ) → k < count ts → levels (entry_of k ts) ≤ most_levels ts
unfolding count entry_of most_levels
entry_most nil k h = absurd (omega arith)
entry_most (cons t ts) zero h = omega arith
entry_most (cons t ts) (suc k) h = let l = entry_most ts k (omega arith) in omega arith

-- what the facts of a granted list are
record Grants (s : List Node) (entries left head : ℕ) : Type 0 where
  is : answer_of s ≡ granted entries left head
  fits : fits_budget s ≡ true
  entries_are : entries ≡ suc (last_word s 1)
  left_is : left ≡ budget_max - spend s
  head_is : head ≡ word_bytes * suc (last_word s 1)

abbrev values_of : Verdict → ℕ × ℕ × ℕ
values_of (refused n) = (0, 0, 0)
values_of none = (0, 0, 0)
values_of over = (0, 0, 0)
values_of (granted e l h) = (e, l, h)

grants_are : (s : List Node) (e l h : ℕ) → granted e l h ≡ answer_of s → Grants s e l h
unfolding answer_of
grants_are s e l h q = go (is_empty (children_in s 1)) (fits_budget s) refl q
  where
    go : (a b : Bool) → fits_budget s ≡ b
        → granted e l h ≡ cond a none (cond b (granted (suc (last_word s 1)) (budget_max - spend s) (word_bytes * suc (last_word s 1))) over) → Grants s e l h
    go true b k p = absurd (differ 3 1 refl (ap kind_of p))
    go false false k p = absurd (differ 3 2 refl (ap kind_of p))
    go false true k p = record {
      is = sym q;
      fits = k;
      entries_are = ap (λ (v : Verdict). (values_of v).0) p;
      left_is = ap (λ (v : Verdict). (values_of v).1) p;
      head_is = ap (λ (v : Verdict). (values_of v).2) p;
    }

-- the list of formed facts that fit the budget
well_listed : (s : List Node) → Formed s → fits_budget s ≡ true → WellListed s (list_of s)
well_listed s F h = record {
  types = list_formed s F;
  parts = list_codes s F;
  nests = λ k below.
      let a = list_levels s F ((and-eq-true_iff (shallow s) (leb (spend s) budget_max)).0 h).0 in
      let b = entry_most (list_of s) k below in
      omega arith;
}

-- a granted answer is no refusal
granted_taken : (e l h : ℕ) → NotRefused (granted e l h)
granted_taken e l h n q = differ 3 0 refl (ap kind_of q)

module _ (t : Held) (types : List ℕ) (h : Handed) (e left head : ℕ) (t' : Held) (types' : List ℕ)
    (O : Outcome t types h (granted e left head) t' types') where
  abbrev s : List Node
  s = state_after t h

  -- a granted answer comes from a sound table
  record Came : Type 0 where
    formed : Formed s
    grants : Grants s e left head
    written : types' ≡ types_after s types

  came : Came
  came =
      let A = not_refused O.number s (granted e left head) O.answers (granted_taken e left head) in
      let T = taken_first t (tests_of t h types) (subst (FirstNo (questions t h types)) A.0 O.asked) in
      record {
        formed =
            filled_formed (state_in t) h (sound_formed t.table t.head.used (records_in t) T.1.sound);
        grants = grants_are s e left head A.1;
        written = O.writes ∙ ap (λ (n : ℕ). cond (eqb n taken) (types_after s types) types) A.0;
      }

  -- "A granted list, also one from a sound table got in another way, is the one that document 01 gives for its facts,
  -- .."
  granted_list : GrantedList s types e left head types'
  unfolding types_after
  granted_list =
      let C = came in
      let G = C.grants in
      let p = (and-eq-true_iff (shallow s) (leb (spend s) budget_max)).0 G.fits in
      record {
        list = C.written ∙ ap (λ (w : Verdict). cond (is_granted w) (with_list s types) types) G.is;
        counted = G.entries_are ∙ sym (list_count s);
        sum_fits = leb-true (spend s) budget_max p.1;
        budget_left = G.left_is;
        head_is = G.head_is ∙ ap (λ (n : ℕ). word_bytes * n) (sym G.entries_are);
        listed = well_listed s C.formed G.fits;
      }

-- "Entry k is the same in any two granted lists that have it and whose facts at and below argument word k agree."
entries_agree : (t : Held) (types : List ℕ) (h : Handed) (e left head : ℕ) (t' : Held) (types' : List ℕ)
    → Outcome t types h (granted e left head) t' types'
    → (u : Held) (slice : List ℕ) (g : Handed) (f rest size : ℕ) (u' : Held) (slice' : List ℕ)
    → Outcome u slice g (granted f rest size) u' slice'
    → (k : ℕ) → k < e → k < f → AgreeAt k (state_after t h) (state_after u g)
    → entry_of k (list_of (state_after t h)) ≡ entry_of k (list_of (state_after u g))
entries_agree t types h e left head t' types' O u slice g f rest size u' slice' Q k ke kf A =
    let C = came t types h e left head t' types' O in
    let D = came u slice g f rest size u' slice' Q in
    let a = C.grants.entries_are in
    let b = D.grants.entries_are in
    entries.entry_same (state_after t h) (state_after u g) C.formed D.formed k (omega arith) (omega arith) A

-- lists of calls from a fresh table of N records
module _ (N : ℕ) (N1 : 1 ≤ N) (NM : N ≤ records_max) where
  held : (cs : List Call) (t : Held) → Run (opened N) cs t → (t ≡ held_of N (known N cs)) × Good N (known N cs)
  held cs t R = run_held N N1 NM start (start_good N N1 NM) cs t R

  stays_sound : (cs : List Call) (t : Held) → Run (opened N) cs t → HasRecords t × IsSound t
  stays_sound cs t R =
      let H = held cs t R in
      let A = admitted N N1 NM (known N cs) H.1 in
      subst (λ (x : Held). HasRecords x × IsSound x) (sym H.0) (A.counted, A.sound)

  steps_answer : (before : List Call) (bytes stack memory x : List ℕ) (number : ℕ) (left : Held)
      → StepIn N before bytes stack memory x number left → number ≡ step_refusal N (known N before) bytes stack memory x
  steps_answer before bytes stack memory x number left I =
      let H = held before I.handed I.ran in
      let l = step_call.lend left I.stack' I.memory' in
      step_answers N N1 NM (known N before) H.1 bytes stack memory x number l
      (subst (λ (t : Held). step_call.Outcome (step_call.lend t stack memory) bytes x number l) H.0 I.outcome)

  closing_facts : (before : List Call) (h : Handed) (handed : Held) → Run (opened N) before handed
      → state_after handed h ≡ closing_state N before h
  closing_facts before h handed R =
      let H = held before handed R in
      ap (λ (t : Held). state_after t h) H.0 ∙ ap (λ (s : List Node). filled s h) (state N N1 NM (known N before) H.1)

  -- a closing in a list
  module _ (before : List Call) (h : Handed) (types : List ℕ) where
    closings_answer : (answer : Verdict) (left : Held) (types' : List ℕ) → ClosingIn N before h types answer left types'
        → answer ≡ answer_by (closing_refusal N (known N before) h types) (closing_state N before h)
    closings_answer answer left types' I =
        let H = held before I.handed I.ran in
        (closing_judged N N1 NM (known N before) H.1 h types answer left types'
        (subst (λ (t : Held). Outcome t types h answer left types') H.0 I.outcome)).0

    closings_judged : (answer : Verdict) (left : Held) (types' : List ℕ) → ClosingIn N before h types answer left types'
        → NotRefused answer → JudgedBy (closing_state N before h) answer
    closings_judged answer left types' I z =
        let H = held before I.handed I.ran in
        let A =
        not_refused (closing_refusal N (known N before) h types) (closing_state N before h) answer
        (closings_answer answer left types' I) z in
        judged_so (closing_state N before h) answer (filled_formed (known N before).state h H.1.formed) A.1

    closings_granted : (entries budget head : ℕ) (left : Held) (types' : List ℕ)
        → ClosingIn N before h types (granted entries budget head) left types'
        → GrantedList (closing_state N before h) types entries budget head types'
    closings_granted entries budget head left types' I =
        subst (λ (s : List Node). GrantedList s types entries budget head types')
        (closing_facts before h I.handed I.ran)
        (granted_list I.handed types h entries budget head left types' I.outcome)

  of_lists : OfLists N
  of_lists = record {
    runs = λ cs. run_there N N1 NM start (start_good N N1 NM) cs;
    follows = λ cs t R. (held cs t R).0;
    stays_sound = stays_sound;
    steps_in = λ before bytes stack memory x u behind t R.
        let S = split (opened N) before (step bytes stack memory x u) behind t R in
        let D = S.does in (
          D.0,
          S.left,
          record { handed = S.handed; ran = S.ran; stack' = D.1; memory' = D.2; outcome = D.3 },
          S.rest,
        );
    steps_answer = steps_answer;
    closings_in = λ before h types behind t R.
        let S = split (opened N) before (closing h types) behind t R in
        let D = S.does in
        (D.0, S.left, D.1, record { handed = S.handed; ran = S.ran; outcome = D.2 }, S.rest);
    closings_answer = closings_answer;
    closings_judged = closings_judged;
    closings_granted = closings_granted;
    closing_facts = closing_facts;
  }

-- demand 3
pub demand_3 : Demand3
demand_3 = record {
  fresh_first = fresh_first;
  lists = of_lists;
  granted_list = granted_list;
  entries_agree = entries_agree;
}
