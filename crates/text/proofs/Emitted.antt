-- What the codes of types write, left to right, is their text.
use mathlib.Core.Path.{◌≡◌, refl, sym, ap, ◌∙◌}
use mathlib.Core.Bool.{Bool, true, false}
use mathlib.Core.List.{List, [], ◌∷◌, ◌++◌, append_assoc, append-nil}
use Prim.Native.Nat.{ℕ, ◌-◌, ◌≤◌}
use native.Mathlib.Omega.{arith}
use borrow.Author.Tests.{lt-leb}
use Rattle.names.specs.Ascii.{ascii}
use Rattle.names.specs.Elementary.{code_of}
use Rattle.names.proofs.Codes.{code_is_name, of_code_lem}
use Rattle.types.specs.Tree.{AbiType, AbiTypes, elementary, array, tuple, nil, cons, count, well_formed, all_well_formed}
use Rattle.types.specs.Codes.{codes, all_codes}
use Rattle.types.specs.Text.{text, list_text, more_text}
use Rattle.types.proofs.Formed.{head_formed, tail_formed, tuple_count, tuple_parts}
use Rattle.types.proofs.KindLaws.{name_kind, array_kind, tuple_kind}
use Rattle.text.specs.Machine.{closers, still_open, separator, none_left, emit}

-- what is written behind a type: the closers, a comma if more follows, and the rest
abbrev rest : List ℕ → List ℕ → List ℕ
rest st cs = closers st ++ separator (none_left cs) ++ emit (still_open st) cs

abbrev Writes : AbiType → Type 0
Writes t = (st cs : List ℕ) → emit st (codes t ++ cs) ≡ text t ++ rest st cs

abbrev WritesParts : AbiTypes → Type 0
WritesParts ts = (st cs : List ℕ) → emit (count ts ∷ st) (all_codes ts ++ cs) ≡ list_text ts ++ (ascii ")" ++ rest st cs)

-- the codes of a list with a first type are not at an end
more_codes : (t : AbiType) (ts : AbiTypes) (cs : List ℕ) → none_left (all_codes (cons t ts) ++ cs) ≡ false
unfolding codes
more_codes (elementary e) ts cs = refl
more_codes (array t) ts cs = refl
more_codes (tuple us) ts cs = refl

-- a tuple with two or more parts to come stays open, with one fewer
module _ (k : ℕ) (st : List ℕ) (two : 2 ≤ k) where
  stays_shut : closers (k ∷ st) ≡ []
  unfolding closers
  stays_shut = simp (lt-leb k 1 (omega arith))

  stays_open : still_open (k ∷ st) ≡ (k - 1) ∷ st
  unfolding still_open
  stays_open = simp (lt-leb k 1 (omega arith))

  comma_behind : (l x : List ℕ) → none_left l ≡ false → emit ((k - 1) ∷ st) l ≡ x → rest (k ∷ st) l ≡ ascii "," ++ x
  comma_behind l x e f = simp (stays_shut, stays_open, e) (ap (λ (y : List ℕ). ascii "," ++ y) f)

-- a last part writes its text and the closing parenthesis
join_last : (t : AbiType) → Writes t → WritesParts (cons t nil)
unfolding codes text closers still_open count
join_last t p st cs = ap (emit (1 ∷ st)) (simp append-nil) ∙ p (1 ∷ st) cs ∙ simp (append-nil, append_assoc)

-- a part before others writes its text, a comma and the others behind it
join_more : (t u : AbiType) (us : AbiTypes) → Writes t → WritesParts (cons u us) → WritesParts (cons t (cons u us))
unfolding codes text count
join_more t u us p q st cs =
    let k : ℕ = count (cons t (cons u us)) in
    let less : count (cons u us) ≡ k - 1 = omega arith in
    let first : emit ((k - 1) ∷ st) (all_codes (cons u us) ++ cs) ≡ list_text (cons u us) ++ (ascii ")" ++ rest st cs) =
    rw less at (q st cs) in
    ap (emit (k ∷ st)) (append_assoc (codes t) (all_codes (cons u us)) cs)
    ∙ p (k ∷ st) (all_codes (cons u us) ++ cs)
    ∙ ap (λ (l : List ℕ). text t ++ l) (comma_behind k st (omega arith) _ _ (more_codes u us cs) first)
    ∙ sym (append_assoc (text t) (more_text (cons u us)) (ascii ")" ++ rest st cs))

join : (t : AbiType) (ts : AbiTypes) → Writes t → (1 ≤ count ts → WritesParts ts) → WritesParts (cons t ts)
unfolding count
join t nil p q = join_last t p
join t (cons u us) p q = join_more t u us p (q (omega arith))

mutual
  unfolding codes text emit closers still_open well_formed count

  -- a type writes its text, and then what is written behind it
  emit_type : (t : AbiType) → well_formed t ≡ true → Writes t
  emit_type (elementary e) h st cs = simp (name_kind (code_of e) (code_is_name e h), of_code_lem e h, append_assoc)
  emit_type (array t) h st cs = simp array_kind (emit_type t h (0 ∷ st) cs ∙ simp append_assoc)
  emit_type (tuple ts) h st cs =
      simp (tuple_kind (count ts) (tuple_count ts h))
      (ap (λ (l : List ℕ). ascii "(" ++ l)
      (emit_parts ts (omega (arith, tuple_count ts h)) (tuple_parts ts h) st cs
      ∙ sym (append_assoc (list_text ts) (ascii ")") (rest st cs))))

  -- the parts of a tuple write their texts, joined by commas, and the closing parenthesis
  emit_parts : (ts : AbiTypes) → 1 ≤ count ts → all_well_formed ts ≡ true → WritesParts ts
  emit_parts nil n h st cs = absurd (omega arith)
  emit_parts (cons t ts) n h st cs =
      join t ts (λ x y. emit_type t (head_formed t ts h) x y) (λ m x y. emit_parts ts m (tail_formed t ts h) x y) st cs

-- the codes of well-formed types write the text of the list
pub emit_is_text : (ts : AbiTypes) → all_well_formed ts ≡ true → emit [] (all_codes ts) ≡ list_text ts
unfolding codes text emit closers still_open
emit_is_text nil h = refl
emit_is_text (cons t ts) h =
    emit_type t (head_formed t ts h) [] (all_codes ts)
    ∙ ap (λ (l : List ℕ). text t ++ l) (behind ts (emit_is_text ts (tail_formed t ts h)))
  where
    behind : (ts : AbiTypes) → emit [] (all_codes ts) ≡ list_text ts
        → separator (none_left (all_codes ts)) ++ emit [] (all_codes ts) ≡ more_text ts
    behind nil e = refl
    behind (cons u us) e =
        let s : none_left (all_codes (cons u us)) ≡ false =
        ap none_left (sym (append-nil (all_codes (cons u us)))) ∙ more_codes u us [] in
        ap (λ (b : Bool). separator b ++ emit [] (all_codes (cons u us))) s ∙ ap (λ (l : List ℕ). ascii "," ++ l) e
