-- What the tables in memory stand for.
use Rattle.std.specs.Prelude.{ℕ, List, map}
use Rattle.book.specs.Books.{Bk}
use Rattle.book.specs.Meaning.{book_of}
use Rattle.policy.specs.Coverage.{Gr}
use Rattle.policy.specs.Policies.{Cs, Po}
use Rattle.policy.specs.declared.table.Clause.{Clause}
use Rattle.policy.specs.declared.table.Group.{Group}
use Rattle.policy.specs.declared.table.Table.{Table}
use Rattle.tables.specs.Rows.{rows_of}

-- the full table: a book and a policy for it
pub record Tb : Type 0 where
  pub book : Bk
  pub policy : Po

-- a group
abbrev pub gr_of : Group → Gr
gr_of g = record { members = rows_of g.members }

-- a clause
abbrev pub cs_of : Clause → Cs
cs_of c = record { label = c.label.name; target = c.target; covers = c.covers; whens = rows_of c.whens; action = c.action }

-- the policy of a table
abbrev pub policy_of : Table → Po
policy_of t = record { cells = rows_of t.cells; groups = map gr_of (rows_of t.groups); clauses = map cs_of (rows_of t.clauses) }

-- a table
abbrev pub table_of : Table → Tb
table_of t = record { book = book_of t.book; policy = policy_of t }

-- the place of a clause's label in the file
abbrev pub cs_place : Clause → ℕ
cs_place c = c.label.place

-- the places of the clauses' labels in the file
abbrev pub label_places : Table → List ℕ
label_places t = map cs_place (rows_of t.clauses)
