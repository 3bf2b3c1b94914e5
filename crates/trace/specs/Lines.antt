-- The lines, stored in a slice: room for them, and what becomes of codes. In these words one function promises another;
-- no outcome is written with them.
use Rattle.std.specs.Prelude.{ℕ, true, ◌≡◌, List, ◌++◌}
use Rattle.types.specs.Tree.{AbiTypes, count, all_well_formed}
use Rattle.types.specs.Codes.{all_codes, Passes}
use Rattle.spell.specs.Stored.{StoredAt}
use Rattle.trace.specs.Text.{entry_line, entry_lines, list_lines}

-- room for any line: a type of 8,192 codes has at most nine bytes of text for each
abbrev pub line_room : ℕ
line_room = 73760

-- room for the lines of the entries of any list of 8,192 codes: at most 21 bytes for each code, and a line more
abbrev pub entries_room : ℕ
entries_room = 245792

-- and for the first line
abbrev pub list_room : ℕ
list_room = 245856

-- what becomes of an entry's codes; where they are those of no types, which no granted list has, no line is counted,
-- and what stands in the slice is free
pub data EntryStored (k : ℕ) (cs out : List ℕ) (to r : ℕ) (out' : List ℕ) : Type 0 where
  written : (ts : AbiTypes) → Passes ts cs → StoredAt (entry_line k ts) out to r out' → EntryStored k cs out to r out'
  no_types : ((ts : AbiTypes) → Passes ts cs → ⊥) → r ≡ to → EntryStored k cs out to r out'

-- the codes begin with those of as many well-formed types as there are entries
pub record Begins (entries : ℕ) (ts : AbiTypes) (rest cs : List ℕ) : Type 0 where
  pub formed : all_well_formed ts ≡ true
  pub number : count ts ≡ entries
  pub spelt : cs ≡ all_codes ts ++ rest

-- what becomes of a list's codes: where they begin so, the lines of these types; else the answer is free
-- (`outcome_text` of the report: a granted list's codes are such)
abbrev pub EntriesStored : ℕ → List ℕ → List ℕ → ℕ → ℕ → List ℕ → Type 0
EntriesStored entries cs out from r out' =
    (ts : AbiTypes) (rest : List ℕ) → Begins entries ts rest cs → StoredAt (entry_lines 0 ts) out from r out'

abbrev pub ListStored : ℕ → ℕ → ℕ → List ℕ → List ℕ → ℕ → ℕ → List ℕ → Type 0
ListStored entries left head cs out from r out' =
    (ts : AbiTypes) (rest : List ℕ) → Begins entries ts rest cs → StoredAt (list_lines entries left head ts) out from r out'
