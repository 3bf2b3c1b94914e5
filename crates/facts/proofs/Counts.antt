-- Question 1's answer, test by test, and what it says.
use Prim.Native.Nat.{ℕ, ◌/◌, ◌%◌, ◌≤◌, ◌<◌}
use mathlib.Core.Path.{◌≡◌, refl, sym, ap, subst}
use mathlib.Core.Bool.{Bool, true, false, cond, and-false}
use native.Mathlib.Decide.{ℕ_discrete, dec_lt}
use native.Mathlib.Omega.{arith}
use borrow.Author.Tests.{eq-eqb, ne_eqb, le-leb, lt-leb, eqb-false}
use Rattle.limits.proofs.Refusals.{not_taken}
use Rattle.limits.specs.Limits.{record_width, records_max}
use Rattle.limits.specs.Refusal.{taken, number_of, answer_number}
use Rattle.limits.specs.declared.refusal.Refusal.TheVariants.{NoRecords, Unsound, LongCode, BrokenSizes}
use Rattle.limits.specs.declared.refusal.Refusal.TheVariants.{BrokenLabels, BrokenFields, NoSlot, NoRoom}
use Rattle.limits.specs.declared.refusal.Refusal.TheVariants.{ShortTypes, BadTypes, ShortText}
use Rattle.limits.specs.declared.refusal.Refusal.{Refusal}
use Rattle.facts.specs.Count.{has_records, CountAnswer, Counted}
use Rattle.facts.specs.Fresh.{count_of}
use Rattle.facts.specs.Checks.{record_count}
use Rattle.std.specs.Prelude.{Ok, Err}
use Rattle.std.specs.declared.result.Result.{Result}

module _ (n : ℕ) where
  broken : (n % record_width ≡ 0 → ⊥) → (Err NoRecords) ≡ record_count n
  unfolding record_count
  broken h = simp (ne_eqb (n % record_width) 0 h)

  too_few : n % record_width ≡ 0 → n / record_width < 1 → (Err NoRecords) ≡ record_count n
  unfolding record_count
  too_few e h = simp (eq-eqb (n % record_width) 0 e, lt-leb 1 (n / record_width) h)

  too_many : n % record_width ≡ 0 → records_max < n / record_width → (Err NoRecords) ≡ record_count n
  unfolding record_count
  too_many e h = simp (eq-eqb (n % record_width) 0 e, lt-leb (n / record_width) records_max h, and-false)

  counts : n % record_width ≡ 0 → 1 ≤ n / record_width → n / record_width ≤ records_max → Ok (n / record_width) ≡ record_count n
  unfolding record_count
  counts e h k = simp (eq-eqb (n % record_width) 0 e, le-leb 1 (n / record_width) h, le-leb (n / record_width) records_max k)

-- only one refusal has the number of question 1
no_records : (r : Refusal) → number_of r ≡ number_of NoRecords → r ≡ NoRecords
no_records NoRecords e = refl
no_records Unsound e = absurd (omega arith)
no_records LongCode e = absurd (omega arith)
no_records BrokenSizes e = absurd (omega arith)
no_records BrokenLabels e = absurd (omega arith)
no_records BrokenFields e = absurd (omega arith)
no_records NoSlot e = absurd (omega arith)
no_records NoRoom e = absurd (omega arith)
no_records ShortTypes e = absurd (omega arith)
no_records BadTypes e = absurd (omega arith)
no_records ShortText e = absurd (omega arith)

not_taken_number : (r : Refusal) → number_of r ≡ taken → ⊥
not_taken_number r e = eqb-false (number_of r) taken (not_taken r) e

pub answer_is : (n : ℕ) (r : Result ℕ Refusal) → CountAnswer n (answer_number r) (count_of r) → r ≡ record_count n
unfolding record_count
answer_is n (Ok N) A = go (has_records n) A.number_is A.count_is
  where
    go : (b : Bool) → taken ≡ cond b taken (number_of NoRecords) → N ≡ cond b (n / record_width) 0
        → Ok N ≡ cond b (Ok (n / record_width)) (Err NoRecords)
    go true e f = ap Ok f
    go false e f = absurd (omega arith)
answer_is n (Err r) A = go (has_records n) A.number_is
  where
    go : (b : Bool) → number_of r ≡ cond b taken (number_of NoRecords)
        → Err r ≡ cond b (Ok (n / record_width)) (Err NoRecords)
    go true e = absurd (not_taken_number r e)
    go false e = ap Err (no_records r e)

-- what each answer says
abbrev Says : ℕ → Result ℕ Refusal → Type 0
Says n (Ok N) = Counted n N
Says n (Err r) = (N : ℕ) → Counted n N → ⊥

says : (n : ℕ) → Says n (record_count n)
says n = go (ℕ_discrete (n % record_width) 0) (dec_lt (n / record_width) 1) (dec_lt records_max (n / record_width))
  where
    go : Dec (n % record_width ≡ 0) → Dec (n / record_width < 1) → Dec (records_max < n / record_width) → Says n (record_count n)
    go (no p) q r = rw (← broken n p) (λ N C. let e = C.is in p (omega arith))
    go (yes p) (yes q) r = rw (← too_few n p q) (λ N C. let e = C.is in let s = C.some in omega arith)
    go (yes p) (no q) (yes r) = rw (← too_many n p r) (λ N C. let e = C.is in let s = C.most in omega arith)
    go (yes p) (no q) (no r) =
        rw (← counts n p (omega arith) (omega arith)) (record { is = omega arith; some = omega arith; most = omega arith })

-- question 1 taken: the table has that many records
pub count_counted : (n N : ℕ) → record_count n ≡ Ok N → Counted n N
count_counted n N e = subst (Says n) e (says n)

-- and a table that has N records is taken with that number
pub counted_count : (n N : ℕ) → Counted n N → record_count n ≡ Ok N
counted_count n N C =
    let e = C.is in let s = C.some in let m = C.most in
    let q : n / record_width ≡ N = omega arith in
    sym (rw q at (counts n (omega arith) (omega arith) (omega arith)))

-- a table has one count of records
pub count_once : (numbers N M : ℕ) → Counted numbers N → Counted numbers M → N ≡ M
count_once numbers N M C D = let c = C.is in let d = D.is in omega arith
