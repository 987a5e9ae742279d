-- In what a reader leaves, each clause flags the operations to which it applies.
use Rattle.std.proofs.Common.{◌≡◌, ℕ, ◌≤◌, Bool, false, List, length, get_or, Decides, sym, ap, ◌∙◌, subst, arith}
use Rattle.book.specs.Books.{Bk}
use Rattle.format.proofs.Law.{of_left}
use Rattle.format.specs.Bytes.{Bytes}
use Rattle.format.specs.Format.{read_file, whole_left}
use Rattle.policy.proofs.Coverage.{applies_decides, flagged_length, flagged_has, has_flagged}
use Rattle.policy.specs.Coverage.{Gr, Applies, applies_to}
use Rattle.policy.specs.Policies.{Cs, Po}
use Rattle.policy_file.proofs.Law.{holds}
use Rattle.policy_file.proofs.Parts.{applies_defined}
use Rattle.policy_file.specs.Law.{Numbered, LawfulGr, LawfulCs, SoFar, policy_format, Flagged}
use Rattle.std.proofs.ByRecursion.{All-weaker}

module _ (b : Bk) (short : length b.operations ≤ 64) where
  clause_flagged : (vs : List ℕ) (gs : List Gr) (c : Cs) → Numbered (LawfulGr b.operations) 0 gs → LawfulCs b.operations vs gs c → (length c.covers ≡ 64) × ((o : ℕ) → Decides (get_or c.covers o false) (Applies gs c.target o))
  clause_flagged vs gs c h w =
      let os = applies_to gs c.target in
      let at : (o : ℕ) → get_or c.covers o false ≡ _ = λ o. ap (λ (fs : List Bool). get_or fs o false) w.covers in
      (ap length w.covers ∙ flagged_length 64 os, λ o. (λ e. (applies_decides gs c.target o).0 (has_flagged 64 os o (sym (at o) ∙ e)), λ a. at o ∙ flagged_has 64 os o (omega (arith, short, applies_defined b.operations gs c.target o h w.target a)) ∙ (applies_decides gs c.target o).1 a))

  flagged : (p : Po) → SoFar b p → Flagged p
  flagged p h = All-weaker (LawfulCs b.operations p.cells p.groups) _ (λ c w. clause_flagged p.cells p.groups c h.each_group w) p.clauses h.each_clause

  pub flags_left : (file : List ℕ) → Bytes file → (p : Po) → p ≡ whole_left (policy_format b) (read_file (policy_format b) file) → Flagged p
  flags_left file bs p e = subst Flagged (sym e) (of_left (policy_format b) (holds b short) file bs Flagged tt (λ a w. flagged a w.lawful.so_far))
