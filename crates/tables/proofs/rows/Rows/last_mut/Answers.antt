use Rattle.tables.proofs.Lasts.{take-set-last, take_last}
use Rattle.tables.proofs.rows.Rows.last_mut.Goals as goal
use Rattle.std.proofs.Common.{refl, arith}

pub returns-then-self-gt0 : goal.returns-then-self-gt0
returns-then-self-gt0 g c =
    let r = c.args.self.now in
    let ok = r.ok in (
      (refl, (λ w. take-set-last r.count r.items w (omega arith) (omega arith)), refl),
      record {
        lends = tt;
        value = take_last r.count r.items _ (omega arith) (omega arith);
      },
    )
