-- A book as lists, its changes, and what is asked of it.
use Rattle.std.specs.Prelude.{ℕ, Bool, true, false, not, ◌&&◌, ◌||◌, List, [], ◌∷◌, ◌++◌, is_some, Some, None, Option, ◌==◌}
use Rattle.book.specs.declared.table.Act.{Act}
use Rattle.book.specs.declared.table.Act.TheVariants.{Look, Put}
use Rattle.book.specs.declared.table.After.{After}
use Rattle.book.specs.declared.table.Condition.{Condition}
use Rattle.std.specs.List.{slice_get}
use Rattle.tables.specs.Lists.{in_last, roomy}
use Rattle.tables.specs.Search.{first_named}
use Rattle.tables.specs.declared.name.Name.{Name}

-- an operation: its name and its marks
pub record Op : Type 0 where
  pub name : Name
  pub marks : List ℕ

-- a call: its name, its fields' marks, the operations of its BEFOREs, its ACT where it has one, and its AFTERs
pub record Cl : Type 0 where
  pub name : Name
  pub fields : List ℕ
  pub befores : List ℕ
  pub act : Option Act
  pub afters : List After

-- a book: its operations and its calls, each numbered from 0 in their order
pub record Bk : Type 0 where
  pub operations : List Op
  pub calls : List Cl

-- the book of an empty file
abbrev pub empty_book : Bk
empty_book = record { operations = []; calls = [] }

-- an operation as it begins
abbrev pub new_op : Name → Op
new_op n = record { name = n; marks = [] }

-- a call as it begins
abbrev pub new_cl : Name → Cl
new_cl n = record { name = n; fields = []; befores = []; act = None; afters = [] }

-- f of what there is, or d where there is nothing
abbrev pub or_else : {X R : Type 0} → R → (X → R) → Option X → R
or_else d f None = d
or_else d f (Some x) = f x

-- the letters of an operation's name
abbrev pub op_name : Op → List ℕ
op_name o = o.name.letters

-- the letters of a call's name
abbrev pub cl_name : Cl → List ℕ
cl_name c = c.name.letters

-- an operation's marks
abbrev pub marks_of : Op → List ℕ
marks_of o = o.marks

-- the marks of operation k: none where there is no such operation
abbrev pub marks_at : List Op → ℕ → List ℕ
marks_at ops k = or_else [] marks_of (slice_get ops k)

-- The changes.

-- an operation with one more mark
abbrev pub marked : ℕ → Op → Op
marked m o = record { name = o.name; marks = o.marks ++ m ∷ [] }

-- a call with one more field
abbrev pub fielded : ℕ → Cl → Cl
fielded m c = record { name = c.name; fields = c.fields ++ m ∷ []; befores = c.befores; act = c.act; afters = c.afters }

-- a call with one more BEFORE
abbrev pub preceded : ℕ → Cl → Cl
preceded k c = record { name = c.name; fields = c.fields; befores = c.befores ++ k ∷ []; act = c.act; afters = c.afters }

-- a call with that act
abbrev pub acting : Option Act → Cl → Cl
acting a c = record { name = c.name; fields = c.fields; befores = c.befores; act = a; afters = c.afters }

-- the AFTER of operation k under that condition
abbrev pub after_of : ℕ → Condition → After
after_of k q = record { operation = k; condition = q }

-- a call with one more AFTER, where there is a condition
abbrev pub followed : ℕ → Option Condition → Cl → Cl
followed k None c = c
followed k (Some q) c = record { name = c.name; fields = c.fields; befores = c.befores; act = c.act; afters = c.afters ++ after_of k q ∷ [] }

-- the book with one more operation
abbrev pub with_operation : Name → Bk → Bk
with_operation n b = record { operations = b.operations ++ new_op n ∷ []; calls = b.calls }

-- the book with one more call
abbrev pub with_call : Name → Bk → Bk
with_call n b = record { operations = b.operations; calls = b.calls ++ new_cl n ∷ [] }

-- the book with its last operation changed
abbrev pub in_last_op : (Op → Op) → Bk → Bk
in_last_op f b = record { operations = in_last f b.operations; calls = b.calls }

-- the book with its last call changed
abbrev pub in_last_cl : (Cl → Cl) → Bk → Bk
in_last_cl f b = record { operations = b.operations; calls = in_last f b.calls }

-- What is asked of it.

-- there is an element
abbrev pub filled : {X : Type 0} → List X → Bool
filled [] = false
filled (x ∷ xs) = true

-- no room for one more among n
abbrev pub full : {X : Type 0} → ℕ → List X → Bool
full n xs = not (roomy n xs)

-- the mark is one of ms
abbrev pub has : List ℕ → ℕ → Bool
has [] m = false
has (n ∷ ns) m = n == m || has ns m

-- each mark of ns is one of ms
abbrev pub has_all : List ℕ → List ℕ → Bool
has_all ms [] = true
has_all ms (n ∷ ns) = has ms n && has_all ms ns

-- the name is one of those
abbrev pub named : List (List ℕ) → List ℕ → Bool
named names n = is_some (first_named names n)

-- the marks that an act needs: the plot, and for a put the entry too
abbrev pub act_needs : Act → List ℕ
act_needs Look = 1 ∷ []
act_needs Put = 1 ∷ 2 ∷ []
