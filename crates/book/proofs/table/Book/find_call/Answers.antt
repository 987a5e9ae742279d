use Rattle.std.proofs.Common.{ℕ, List, map, sym, ap, ◌∙◌}
use Rattle.book.proofs.table.Book.find_call.Goals as goal
use Rattle.book.specs.Books.{cl_name}
use Rattle.book.specs.Meaning.{cl_of}
use Rattle.book.specs.declared.table.Call.{Call}
use Rattle.tables.specs.Rows.{rows_of}
use Rattle.tables.specs.Search.{first_named}
use mathlib.Core.List.{map-map}

pub returns : goal.returns
returns c =
    let n = c.args.name.now.letters in
    let held = ap (λ (l : List Call). first_named (map (λ x. x.placed.name.letters) l) n) c.held.ensures in
    let meant = ap (λ (l : List (List ℕ)). first_named l n) (sym (map-map cl_name cl_of (rows_of c.args.self.now.calls))) in
    c.find.ensures.is ∙ held ∙ meant
