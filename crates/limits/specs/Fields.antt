-- The places of a record's numbers, from 0: "key, parent, child, next, seen, not-bool, blocked, kind, count, name,
-- confidence".
use Rattle.std.specs.Prelude.{ℕ}

abbrev pub key : ℕ
key = 0

abbrev pub parent : ℕ
parent = 1

abbrev pub child : ℕ
child = 2

abbrev pub next : ℕ
next = 3

abbrev pub seen : ℕ
seen = 4

abbrev pub not_bool : ℕ
not_bool = 5

abbrev pub blocked : ℕ
blocked = 6

abbrev pub kind : ℕ
kind = 7

abbrev pub count : ℕ
count = 8

abbrev pub name : ℕ
name = 9

abbrev pub confidence : ℕ
confidence = 10
