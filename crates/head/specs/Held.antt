-- What goes along with every call: "Beside it, the head (records used, decoder active) goes along with every call."
use Rattle.std.specs.Prelude.{ℕ, ◌/◌, ◌≤◌, List, length}
use Rattle.limits.specs.Limits.{record_width}
use Rattle.facts.specs.Count.{Counted}
use Rattle.facts.specs.Sound.{Sound}
use Rattle.facts.specs.State.{Node, nodes, encode}
use Rattle.head.specs.declared.Head.{Head}

-- the head, and the fact table that it stands beside
pub record Held : Type 0 where
  pub head : Head
  pub table : List ℕ

abbrev pub held : Head → List ℕ → Held
held head table = record { head = head; table = table }

-- how many records the table has, if it has whole ones
abbrev pub records_in : Held → ℕ
records_in h = length h.table / record_width

-- the state of the used records
abbrev pub state_in : Held → List Node
state_in h = nodes h.table h.head.used

-- the state s in a table of N records, the other records zero, with the head beside it
abbrev pub holding : ℕ → ℕ → List Node → Held
holding N active s = held (record { used = length s; active = active }) (encode N s)

-- 1. "Is the fact table a multiple of 11 with 1 to 16,384 records?"
abbrev pub HasRecords : Held → Type 0
HasRecords h = Counted (length h.table) (records_in h)

-- 2. "Is it sound?" A decoder active above 1 is refused with it (docs/DECISIONS.md, decision D33)
pub record IsSound (h : Held) : Type 0 where
  pub sound : Sound h.table h.head.used (records_in h)
  pub active : h.head.active ≤ 1
