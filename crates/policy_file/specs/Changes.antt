-- What each command makes of a policy.
use Rattle.policy.specs.Meaning.{label_places}
use Rattle.policy.specs.Policies.{Po, joining, guarded, acting, with_cell, with_group, with_clause, in_last_gr, in_last_cs}
use Rattle.policy.specs.declared.table.Action.TheVariants.{Violate}
use Rattle.policy.specs.declared.table.Member.TheVariants.{Has, Nest}
use Rattle.policy.specs.declared.table.Target.TheVariants.{Operation, Group}
use Rattle.policy.specs.declared.table.Table.{Table}
use Rattle.policy_file.specs.Terms.{term_of, when_of, write_with}
use Rattle.policy_file.specs.declared.commands.Command.TheVariants.{Cell as CELL, Group as GROUP, Has as HAS, Nest as NEST, On as ON, OnGroup as ONGROUP, When as WHEN, Violate as VIOLATE, Write as WRITE}
use Rattle.policy_file.specs.declared.commands.Command.{Command}
use Rattle.std.specs.Prelude.{◌≡◌, Some}

-- the policy after a command that no test speaks against
abbrev pub obey : Po → Command → Po
obey p (CELL v) = with_cell v p
obey p GROUP = with_group p
obey p (HAS o) = in_last_gr (joining (Has o)) p
obey p (NEST k) = in_last_gr (joining (Nest k)) p
obey p (ON o n) = with_clause (Operation o) n p
obey p (ONGROUP k n) = with_clause (Group k) n p
obey p (WHEN q l r) = in_last_cs (guarded (when_of p.cells q l r)) p
obey p VIOLATE = in_last_cs (acting (Some Violate)) p
obey p (WRITE w k t) = in_last_cs (acting (write_with w k (term_of p.cells t))) p

-- beside the policy all stays: the book of t is that of s, and the labels stand at the same places
abbrev pub SameBeside : Table → Table → Type 0
SameBeside s t = (t.book ≡ s.book) × (label_places t ≡ label_places s)
