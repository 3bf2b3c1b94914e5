-- The pass over all records: what it adds up, and what equal weights show.
use Prim.Native.Nat.{ℕ, zero, suc, ◌+◌, ◌-◌, ◌*◌, ◌≤◌, ◌<◌}
use mathlib.Core.Path.{◌≡◌, refl, ap, ◌∙◌}
use mathlib.Core.Bool.{Bool, true, false}
use mathlib.Core.Logic.{◌⊎◌, inl, inr, ⊎_elim}
use mathlib.Core.List.{List, [], ◌∷◌, ◌++◌}
use native.Mathlib.Omega.{arith}
use native.Mathlib.Nat.{eq-or-lt_of_le}
use native.Mathlib.Decide.{ℕ_discrete}
use lib.Dec.{eqb}
use lib.ListN.{length}
use borrow.Author.Tests.{eqb-true, eqb-false}
use Rattle.facts.proofs.Distinct.{NoDup, total, Split, split, span, length_span, span_in, in_span, all_in}
use Rattle.facts.proofs.Distinct.{at_least}
use Rattle.facts.proofs.Chains.{top, key_le, seg_in, in_seg, rising_once, chained_linked}
use Rattle.facts.proofs.Whole.{is_root_lem, root_fact, le_under_seen, under_seen_le}
use Rattle.facts.proofs.Weights.{weight_is, link_none, link_some}
use Rattle.limits.specs.Limits.{record_width, records_max}
use Rattle.facts.specs.Table.{key_of, parent_of, child_of, next_of}
use Rattle.facts.specs.State.{node_at}
use Rattle.facts.specs.Links.{Kid, In, Seg, Rising, ChainOf}
use Rattle.facts.specs.Linked.{Chained, First}
use Rattle.facts.specs.Checks.{is_record, is_under_seen, is_root, AreRecords}
use Rattle.facts.specs.Checks.{Tells}
use Rattle.facts.specs.Weights.{link_weight, weight_end, weight, link_to, Leads, Under, Fits, Added as AddedBy}

-- what the link to the one behind r weighs
abbrev pub onward : List ℕ → ℕ → ℕ
onward t r = link_to t (next_of t r)

-- what the links to the first records of the chains of 1 to n weigh
pub firsts : List ℕ → ℕ → ℕ
firsts t zero = 0
firsts t (suc n) = firsts t n + link_to t (child_of t (suc n))

-- before record r: those before it fit, their links and the records themselves are added up
pub record Added (t : List ℕ) (u r links records : ℕ) : Type 0 where
  pub low : 2 ≤ r
  pub high : r ≤ u + 1
  pub root : Leads t u 1 0 (child_of t 1)
  pub fits : (q : ℕ) → 1 < q → q < r → Fits t u q
  pub light : (q : ℕ) → 1 < q → q < r → onward t q < weight_end
  pub links_are : links ≡ firsts t (r - 1) + total (onward t) (span (r - 2))
  pub records_are : records ≡ total (weight t) (span (r - 2))
  pub links_end : links ≤ r * (2 * weight_end)
  pub records_end : records ≤ r * weight_end

pub added_start : (t : List ℕ) (u w : ℕ) → 1 ≤ u → Leads t u 1 0 (child_of t 1) → w ≡ 0 + link_to t (child_of t 1) → w < 0 + weight_end → Added t u 2 w 0
unfolding firsts total span
added_start t u w h C e l = record {
  low = omega arith;
  high = omega arith;
  root = C;
  fits = λ q a b. absurd (omega arith);
  light = λ q a b. absurd (omega arith);
  links_are = omega arith;
  records_are = refl;
  links_end = omega arith;
  records_end = omega arith;
}

pub added_more : (t : List ℕ) (u r links records n w : ℕ) → Added t u r links records → r ≤ u → Fits t u r
    → AddedBy n t r links → w ≡ weight t r → w < weight_end → Added t u (r + 1) n (records + w)
unfolding firsts total span
added_more t u r links records n w A h F B we wl =
    let sum = B.sum in
    let ce = B.child_end in
    let ne = B.next_end in
    let lo = A.low in
    let le = A.links_are in
    let re = A.records_are in
    let a : r + 1 - 2 ≡ suc (r - 2) = omega arith in
    let b : r + 1 - 1 ≡ suc (r - 1) = omega arith in
    let d : suc (r - 1) ≡ r = omega arith in
    let g : suc (suc (r - 2)) ≡ r = omega arith in
    record {
      low = omega arith;
      high = omega arith;
      root = A.root;
      fits = λ q q1 ql. ⊎_elim (λ (e : q ≡ r). rw e F) (λ (l : q < r). A.fits q q1 l) (eq-or-lt_of_le (let z = ql in omega arith));
      light = λ q q1 ql. ⊎_elim (λ (e : q ≡ r). rw e ne) (λ (l : q < r). A.light q q1 l) (eq-or-lt_of_le (let z = ql in omega arith));
      links_are = rw (a, b, d, g) (omega arith);
      records_are = rw (a, g) (omega arith);
      links_end = let i = A.links_end in omega arith;
      records_end = let i = A.records_end in omega arith;
    }

-- the sums over two lists, one behind the other
total_append : (f : ℕ → ℕ) (l m : List ℕ) → total f (l ++ m) ≡ total f l + total f m
unfolding total
total_append f [] m = omega arith
total_append f (x ∷ l) m = let h = total_append f l m in omega arith

in_append : (x : ℕ) (l m : List ℕ) → In x (l ++ m) → In x l ⊎ In x m
in_append x [] m i = inr i
in_append x (y ∷ l) m (inl e) = inl (inl e)
in_append x (y ∷ l) m (inr i) = ⊎_elim (λ (j : In x l). inl (inr j)) (λ (j : In x m). inr j) (in_append x l m i)

in_left : (x : ℕ) (l m : List ℕ) → In x l → In x (l ++ m)
in_left x [] m x'' = elim x'' [ ]
in_left x (y ∷ l) m (inl e) = inl e
in_left x (y ∷ l) m (inr i) = inr (in_left x l m i)

in_right : (x : ℕ) (l m : List ℕ) → In x m → In x (l ++ m)
in_right x [] m i = i
in_right x (y ∷ l) m i = inr (in_right x l m i)

nodup_append : (l m : List ℕ) → NoDup l → NoDup m → ((x : ℕ) → In x l → In x m → ⊥) → NoDup (l ++ m)
nodup_append [] m d e f = e
nodup_append (y ∷ l) m d e f =
    ((λ i. ⊎_elim d.0 (f y (inl refl)) (in_append y l m i)), nodup_append l m d.1 e (λ x i j. f x (inr i) j))

-- the links of a whole chain weigh as much as its records
chain_weighs : (t : List ℕ) (c : ℕ) (ms : List ℕ) → Seg t c ms 0 → link_to t c + total (onward t) ms ≡ total (weight t) ms
unfolding total
chain_weighs t c [] s = let e = link_none t c s in omega arith
chain_weighs t c (m ∷ ms) s =
    let e = ap (link_to t) s.0 ∙ link_some t m s.1 in
    let h = chain_weighs t (next_of t m) ms s.2 in
    omega arith

-- the records in the chains of 1 to p
record Met (t : List ℕ) (u p : ℕ) : Type 0 where
  met : List ℕ
  nodup : NoDup met
  from : (r : ℕ) → In r met → (1 ≤ parent_of t r) × (parent_of t r ≤ p)
  kid : (r : ℕ) → In r met → Kid t u (parent_of t r) r
  stands : (r : ℕ) → In r met → (ms : List ℕ) × Seg t (child_of t (parent_of t r)) ms r
  all : (r : ℕ) → (r ≡ 0 → ⊥) → 1 ≤ parent_of t r → parent_of t r ≤ p → (ms : List ℕ) → Seg t (child_of t (parent_of t r)) ms r → In r met
  weighs : firsts t p + total (onward t) met ≡ total (weight t) met

module _ (t : List ℕ) (u : ℕ) (chains : (q : ℕ) → 1 ≤ q → q ≤ u → ChainOf t u q) where
  met_more : (p : ℕ) → suc p ≤ u → Met t u p → Met t u (suc p)
  unfolding firsts
  met_more p h M =
      let C = chains (suc p) (omega arith) h in
      let is : (r : ℕ) → In r C.members → parent_of t r ≡ suc p = λ r i. (C.kids r i).parent in
      record {
        met = C.members ++ M.met;
        nodup = nodup_append C.members M.met (rising_once t 0 C.members C.rising) M.nodup
            (λ x i j. let a = is x i in let b = (M.from x j).1 in omega arith);
        from = λ r i. ⊎_elim (λ (j : In r C.members). let a = is r j in (omega arith, omega arith))
            (λ (j : In r M.met). let b = M.from r j in (b.0, let c = b.1 in omega arith)) (in_append r C.members M.met i);
        kid = λ r i. ⊎_elim (λ (j : In r C.members). rw (is r j) (C.kids r j)) (λ (j : In r M.met). M.kid r j) (in_append r C.members M.met i);
        stands = λ r i. ⊎_elim (λ (j : In r C.members). rw (is r j) (in_seg t (child_of t (suc p)) C.members 0 r C.whole j))
            (λ (j : In r M.met). M.stands r j) (in_append r C.members M.met i);
        all = λ r n r1 rp ms s. ⊎_elim
            (λ (e : parent_of t r ≡ suc p). in_left r C.members M.met (seg_in t (child_of t (suc p)) ms r C.members n (rw e at s) C.whole))
            (λ (l : parent_of t r < suc p). in_right r C.members M.met (M.all r n r1 (omega arith) ms s))
            (eq-or-lt_of_le rp);
        weighs =
            let a = total_append (onward t) C.members M.met in
            let b = total_append (weight t) C.members M.met in
            let c = chain_weighs t (child_of t (suc p)) C.members C.whole in
            let d = M.weighs in
            omega arith;
      }

  met_to : (p : ℕ) → p ≤ u → Met t u p
  unfolding firsts total
  met_to zero h = record {
    met = [];
    nodup = tt;
    from = λ r i. absurd i;
    kid = λ r i. absurd i;
    stands = λ r i. absurd i;
    all = λ r n r1 rp ms s. absurd (omega arith);
    weighs = refl;
  }
  met_to (suc p) h = met_more p h (met_to p (omega arith))

  -- all chains
  met_all : Met t u u
  met_all = met_to u (omega arith)

  met_in : 1 ≤ u → (y : ℕ) → In y met_all.met → (1 < y) × (y ≤ (u - 1) + 1)
  met_in h y i =
      let M = met_all in
      let k = M.kid y i in let f = (M.from y i).0 in let a = k.above in let b = k.used in
      (omega arith, omega arith)

  -- the records 2 to u are those in the chains and the rest
  parts : (h : 1 ≤ u) → Split met_all.met (span (u - 1))
  parts h = let M = met_all in split M.met (span (u - 1)) M.nodup (λ y i. let g = met_in h y i in span_in (u - 1) y g.0 g.1)

  -- the weights are equal just where those of the rest are
  parts_weigh : (h : 1 ≤ u) (links records : ℕ) → links ≡ firsts t u + total (onward t) (span (u - 1)) → records ≡ total (weight t) (span (u - 1))
      → links + total (weight t) (parts h).rest ≡ records + total (onward t) (parts h).rest
  parts_weigh h links records e q =
      let P = parts h in
      let a = P.sums (onward t) in
      let b = P.sums (weight t) in
      let w = met_all.weighs in
      omega arith

-- records that have no next one, or one with a higher key, weigh less or more than the links to the next ones
module _ (t : List ℕ) where
  lower : (l : List ℕ) → length l * link_weight ≤ total (weight t) l
  unfolding total
  lower [] = omega arith
  lower (x ∷ l) = let h = lower l in let e = weight_is t x in omega arith

  upper : (l : List ℕ) → ((y : ℕ) → In y l → onward t y < weight_end) → total (onward t) l ≤ length l * weight_end
  unfolding total
  upper [] f = omega arith
  upper (x ∷ l) f = let h = upper l (λ y i. f y (inr i)) in let e = f x (inl refl) in omega arith

  either : (l : List ℕ) → ((y : ℕ) → In y l → onward t y < weight_end) → ((y : ℕ) → In y l → (onward t y ≡ 0) ⊎ (weight t y < onward t y))
      → (total (weight t) l + length l ≤ total (onward t) l) ⊎ (total (onward t) l + weight_end ≤ length l * weight_end)
  unfolding total
  either [] f g = inl (omega arith)
  either (x ∷ l) f g = go (g x (inl refl)) (either l (λ y i. f y (inr i)) (λ y i. g y (inr i)))
    where
      go : (onward t x ≡ 0) ⊎ (weight t x < onward t x) → (total (weight t) l + length l ≤ total (onward t) l) ⊎ (total (onward t) l + weight_end ≤ length l * weight_end)
          → (total (weight t) (x ∷ l) + length (x ∷ l) ≤ total (onward t) (x ∷ l)) ⊎ (total (onward t) (x ∷ l) + weight_end ≤ length (x ∷ l) * weight_end)
      go (inl z) _ = inr (let h = upper l (λ y i. f y (inr i)) in omega arith)
      go (inr m) (inl h) = inl (omega arith)
      go (inr m) (inr h) = inr (let e = f x (inl refl) in omega arith)

  none_left : (l : List ℕ) → length l ≤ records_max → ((y : ℕ) → In y l → onward t y < weight_end)
      → ((y : ℕ) → In y l → (onward t y ≡ 0) ⊎ (weight t y < onward t y)) → total (weight t) l ≡ total (onward t) l → length l ≡ 0
  none_left l m f g e = ⊎_elim (λ h. omega arith) (λ h. let a = lower l in absurd (omega arith)) (either l f g)

  nothing : (f : ℕ → ℕ) (l : List ℕ) → length l ≡ 0 → total f l ≡ 0
  unfolding total
  nothing f [] e = refl
  nothing f (x ∷ l) e = absurd (omega arith)

-- the first of p's chain, if there is one, is a child of p by its own fields
abbrev ChildFits : List ℕ → ℕ → ℕ → Type 0
ChildFits t u p = (child_of t p ≡ 0 → ⊥) → Kid t u p (child_of t p)

-- the one behind r, if there is one, is a child of r's parent by its own fields, with a higher key
abbrev NextFits : List ℕ → ℕ → ℕ → Type 0
NextFits t u r = (next_of t r ≡ 0 → ⊥) → Kid t u (parent_of t r) (next_of t r) × (key_of t r < key_of t (next_of t r))

-- a record that weighs more has a higher key
weight_key : (t : List ℕ) (r s : ℕ) → weight t r < weight t s → key_of t r < key_of t s
weight_key t r s h = let a = weight_is t r in let b = weight_is t s in omega arith

key_weight : (t : List ℕ) (r s : ℕ) → key_of t r < key_of t s → weight t r < weight t s
key_weight t r s h = let a = weight_is t r in let b = weight_is t s in omega arith

-- the link to the next one weighs nothing, or more than the record
rise : (t : List ℕ) (u p r : ℕ) → Leads t u p (weight t r) (next_of t r) → (onward t r ≡ 0) ⊎ (weight t r < onward t r)
rise t u p r L = go (ℕ_discrete (next_of t r) 0)
  where
    go : Dec (next_of t r ≡ 0) → (onward t r ≡ 0) ⊎ (weight t r < onward t r)
    go (yes z) = inl (link_none t (next_of t r) z)
    go (no n) = inr (let k = (L n).2 in let a = link_some t (next_of t r) n in omega arith)

-- the chain of p, from c on, with keys from b on
record Partly (t : List ℕ) (u p b c : ℕ) : Type 0 where
  members : List ℕ
  seg : Seg t c members 0
  rising : Rising t b members
  kids : (m : ℕ) → In m members → Kid t u p m

-- where each record's parent has a lower number, a link leads to a child of its parent
module _ (t : List ℕ) (u : ℕ) (R : is_root t ≡ true) (up : (q : ℕ) → 1 < q → q ≤ u → parent_of t q < q) where
  kid_of : (p c : ℕ) → 1 ≤ p → (c ≡ 0 → ⊥) → c ≤ u → parent_of t c ≡ p → Kid t u p c
  kid_of p c p1 n l e = record { above = go (eq-or-lt_of_le one); used = l; parent = e }
    where
      one : 1 ≤ c
      one = omega arith

      go : (1 ≡ c) ⊎ (1 < c) → p < c
      go (inl z) = let h = (is_root_lem t R).parent in let k : parent_of t 1 ≡ p = rw (← z) at e in absurd (omega arith)
      go (inr m) = let h = up c m l in omega arith

module _ (t : List ℕ) (u p : ℕ) (p1 : 1 ≤ p) (fits : (q : ℕ) → 1 < q → q ≤ u → NextFits t u q) where
  end : (b c : ℕ) → c ≡ 0 → Partly t u p b c
  end b c z = record { members = []; seg = z; rising = tt; kids = λ m i. absurd i }

  more : (b c : ℕ) → (c ≡ 0 → ⊥) → Kid t u p c → b ≤ key_of t c → Partly t u p (key_of t c + 1) (next_of t c) → Partly t u p b c
  more b c n k h B = record {
    members = c ∷ B.members;
    seg = (refl, n, B.seg);
    rising = (h, B.rising);
    kids = λ x i. ⊎_elim (λ e. rw e k) (λ j. B.kids x j) i;
  }

  -- the one behind a child of p
  behind : (c : ℕ) → Kid t u p c → (next_of t c ≡ 0 → ⊥) → Kid t u p (next_of t c) × (key_of t c + 1 ≤ key_of t (next_of t c))
  behind c k n = let f = fits c (let x = k.above in omega arith) k.used n in (rw k.parent at f.0, let y = f.1 in omega arith)

  follow : (n b c : ℕ) → top t < b + n → ((c ≡ 0 → ⊥) → Kid t u p c × (b ≤ key_of t c)) → Partly t u p b c
  follow zero b c h K = end b c (go (ℕ_discrete c 0))
    where
      go : Dec (c ≡ 0) → c ≡ 0
      go (yes z) = z
      go (no m) = let a = (K m).1 in let k = key_le t c in absurd (omega arith)
  follow (suc n) b c h K = go (ℕ_discrete c 0) (λ m. follow n (key_of t c + 1) (next_of t c) (let a = (K m).1 in omega arith) (behind c (K m).0))
    where
      go : Dec (c ≡ 0) → ((c ≡ 0 → ⊥) → Partly t u p (key_of t c + 1) (next_of t c)) → Partly t u p b c
      go (yes z) f = end b c z
      go (no m) f = more b c m (K m).0 (K m).1 (f m)

  pub chain_of : ChildFits t u p → ChainOf t u p
  chain_of C =
      let B = follow (top t + 1) 0 (child_of t p) (omega arith) (λ n. (C n, omega arith)) in
      record { members = B.members; whole = B.seg; rising = B.rising; kids = B.kids }

module _ (t : List ℕ) (u links records : ℕ) (h : 1 ≤ u) (m : u ≤ records_max) where
  -- equal weights: every record stands in a chain
  pub weighed_chained : u * record_width ≤ length t → is_root t ≡ true → Added t u (u + 1) links records → links ≡ records → Chained t u × AreRecords t u
  weighed_chained w R A e = (chained, record { fact = fact; under_seen = under_seen })
    where
      fits : (q : ℕ) → 1 < q → q ≤ u → Fits t u q
      fits q a b = A.fits q a (omega arith)

      up : (q : ℕ) → 1 < q → q ≤ u → parent_of t q < q
      up q a b = (fits q a b).under.above

      leads : (p : ℕ) → 1 ≤ p → p ≤ u → Leads t u p 0 (child_of t p)
      leads p a b = ⊎_elim (λ (z : 1 ≡ p). rw (← z) A.root) (λ (l : 1 < p). (fits p l b).child) (eq-or-lt_of_le a)

      child : (p : ℕ) → 1 ≤ p → p ≤ u → ChildFits t u p
      child p a b n = let l = leads p a b n in kid_of t u R up p (child_of t p) a n l.0 l.1

      next : (q : ℕ) → 1 < q → q ≤ u → NextFits t u q
      next q a b n =
          let F = fits q a b in
          let l = F.next n in
          (kid_of t u R up (parent_of t q) (next_of t q) F.under.from n l.0 l.1, weight_key t q (next_of t q) l.2)

      chains : (p : ℕ) → 1 ≤ p → p ≤ u → ChainOf t u p
      chains p a b = chain_of t u p a next (child p a b)

      M : Met t u u
      M = met_all t u chains

      in_rest : (y : ℕ) → In y (parts t u chains h).rest → (1 < y) × (y ≤ u)
      in_rest y i = let g = in_span (u - 1) y ((parts t u chains h).within y i) in (g.0, let k = g.1 in omega arith)

      rises : (y : ℕ) → In y (parts t u chains h).rest → (onward t y ≡ 0) ⊎ (weight t y < onward t y)
      rises y i = let g = in_rest y i in rise t u (parent_of t y) y (fits y g.0 g.1).next

      left : length (parts t u chains h).rest ≡ 0
      left =
          let P = parts t u chains h in
          let c = P.count in
          let s = length_span (u - 1) in
          let l = A.links_are in
          let q = A.records_are in
          let a : u + 1 - 1 ≡ u = omega arith in
          let b : u + 1 - 2 ≡ u - 1 = omega arith in
          let v = parts_weigh t u chains h links records (rw (a, b) at l) (rw b at q) in
          none_left t P.rest (omega arith) (λ y i. let g = in_rest y i in A.light y g.0 (let z = g.1 in omega arith)) rises (omega arith)

      met : (r : ℕ) → 1 < r → r ≤ u → In r M.met
      met r r1 ru =
          let c = (parts t u chains h).count in
          let s = length_span (u - 1) in
          let z = left in
          all_in (u - 1) M.met M.nodup (met_in t u chains h) (omega arith) r r1 (omega arith)

      chained : Chained t u
      chained = record {
        some = h;
        whole = w;
        up = λ r r1 ru. ((fits r r1 ru).under.from, (fits r r1 ru).under.above);
        chain = chains;
        placed = λ r r1 ru. M.stands r (met r r1 ru);
      }

      -- the root passed before
      fact : (r : ℕ) → 1 ≤ r → r ≤ u → is_record (node_at t r) ≡ true
      fact r r1 ru = ⊎_elim (λ (z : 1 ≡ r). rw (← z) (root_fact t (is_root_lem t R))) (λ (l : 1 < r). (fits r l ru).fact) (eq-or-lt_of_le r1)

      under_seen : (r : ℕ) → 1 < r → r ≤ u → is_under_seen t r ≡ true
      under_seen r r1 ru = let U = (fits r r1 ru).under in let a = U.above in le_under_seen t r (fact (parent_of t r) U.from (omega arith)) U.seen

  -- every record stands in a chain: equal weights
  pub chained_weighed : Chained t u → Added t u (u + 1) links records → links ≡ records
  chained_weighed C A =
      let M = met_all t u C.chain in
      let P = parts t u C.chain h in
      let n = at_least (u - 1) M.met (λ r r1 ru. let g = C.up r r1 (omega arith) in let s = C.placed r r1 (omega arith) in
      M.all r (λ z. omega arith) g.0 (let k = g.1 in omega arith) s.0 s.1) in
      let c = P.count in
      let s = length_span (u - 1) in
      let z : length P.rest ≡ 0 = omega arith in
      let x = nothing t (onward t) P.rest z in
      let y = nothing t (weight t) P.rest z in
      let l = A.links_are in
      let q = A.records_are in
      let a : u + 1 - 1 ≡ u = omega arith in
      let b : u + 1 - 2 ≡ u - 1 = omega arith in
      let v = parts_weigh t u C.chain h links records (rw (a, b) at l) (rw b at q) in
      omega arith

  -- what the last test tells
  pub told : u * record_width ≤ length t → is_root t ≡ true → (r : ℕ) → Added t u r links records → u < r → Tells (eqb links records) (Chained t u × AreRecords t u)
  told w R r A l = go (eqb links records) refl
    where
      all : Added t u (u + 1) links records
      all = rw (let k = A.high in let e : r ≡ u + 1 = omega arith in e) at A

      go : (b : Bool) → eqb links records ≡ b → Tells b (Chained t u × AreRecords t u)
      go true e = weighed_chained w R all (eqb-true links records e)
      go false e = λ S. eqb-false links records e (chained_weighed S.0 all)

-- what a chained table has at each record
module _ (t : List ℕ) (u : ℕ) (C : Chained t u) where
  pub chained_child : (p : ℕ) → 1 ≤ p → p ≤ u → Leads t u p 0 (child_of t p)
  chained_child p p1 pu n =
      let k = ((chained_linked t u C).child p p1 pu).kid n in
      let e = weight_is t (child_of t p) in
      (k.used, k.parent, omega arith)

  -- the first after r's own key
  after : (r : ℕ) → 1 < r → r ≤ u → First t u (parent_of t r) (key_of t r + 1) (next_of t r)
  after r r1 ru =
      let g = C.up r r1 ru in
      (chained_linked t u C).next (parent_of t r) r g.0 (record { above = g.1; used = ru; parent = refl })

  chained_next : (r : ℕ) → 1 < r → r ≤ u → Leads t u (parent_of t r) (weight t r) (next_of t r)
  chained_next r r1 ru n =
      let F = after r r1 ru in
      let k = F.kid n in
      (k.used, k.parent, key_weight t r (next_of t r) (let f = F.from n in omega arith))

  chained_under : AreRecords t u → (r : ℕ) → 1 < r → r ≤ u → Under t r
  chained_under A r r1 ru =
      let g = C.up r r1 ru in
      record { from = g.0; above = g.1; seen = under_seen_le t r (A.fact r (omega arith) ru) (A.under_seen r r1 ru) }

  pub chained_fits : AreRecords t u → (r : ℕ) → 1 < r → r ≤ u → Fits t u r
  chained_fits A r r1 ru = record {
    under = chained_under A r r1 ru;
    fact = A.fact r (omega arith) ru;
    child = chained_child r (omega arith) ru;
    next = chained_next r r1 ru;
  }
