-- A policy with other groups, and with other clauses; a clause that has begun.
use Rattle.policy.specs.Coverage.{Gr}
use Rattle.policy.specs.Policies.{Cs, Po}
use Rattle.policy.specs.declared.table.Target.{Target}
use Rattle.std.proofs.Common.{Bool, List, [], None}
use Rattle.tables.specs.declared.name.Name.{Name}

abbrev pub groups_are : Po → List Gr → Po
groups_are p gs = record { cells = p.cells; groups = gs; clauses = p.clauses }

abbrev pub clauses_are : Po → List Cs → Po
clauses_are p cs = record { cells = p.cells; groups = p.groups; clauses = cs }

abbrev pub begun : Name → Target → List Bool → Cs
begun n t covers = record { label = n; target = t; covers = covers; whens = []; action = None }
