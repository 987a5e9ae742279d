use Rattle.std.proofs.Common.{length, ap, refl, take, drop, ◌++◌, ◌∙◌}
use Rattle.std.proofs.lemmas.List.{length-set}
use Rattle.register.specs.Plots.{most}
use Rattle.register.specs.Shown.{seam_still}
use Rattle.register.proofs.Cuts.{found_first, found_second, found_past, put_first, put_second, put_past, rest_first, rest_second}
use Rattle.register.proofs.joined.JoinedRegister.put.Goals as goal

pub returns-then-plot-seam : goal.returns-then-plot-seam
returns-then-plot-seam g c =
    let j = c.args.self.now in
    let xs = g.A.Register.meaning j.first in
    let ys = g.B.Register.meaning j.second in
    let p = c.args.plot in
    let v = c.args.entry in
    let m = c.plots-seam.result in
    let e = c.plots-seam.ensures.count in
    let h = c.if-plot-seam.true in
    let k = g.A.Register.short j.first in
    let q = c.put.ensures.plots in
    record {
      found = c.put.ensures.found ∙ found_first most m xs ys e p v h k;
      plots = ap (λ l. take most (l ++ ys)) q ∙ put_first most m xs ys e p v h k;
      beside = (
        c.put.ensures.beside,
        g.B.Register.still j.second,
        record { seam = ap length q ∙ length-set xs p v; rest = ap (λ l. drop most (l ++ ys)) q ∙ rest_first most m xs ys e p v h k },
      );
    }

pub returns-else-plot-seam : goal.returns-else-plot-seam
returns-else-plot-seam g c =
    let j = c.args.self.now in
    let xs = g.A.Register.meaning j.first in
    let ys = g.B.Register.meaning j.second in
    let p = c.args.plot in
    let v = c.args.entry in
    let m = c.plots-seam.result in
    let e = c.plots-seam.ensures.count in
    let h = c.if-plot-seam.false in
    let k = c.if-plot-ge-MOST.false in
    let put = c.put-else-plot-seam in
    let q = put.ensures.plots in
    record {
      found = put.ensures.found ∙ found_second most m xs ys e p v h k;
      plots = ap (λ l. take most (xs ++ l)) q ∙ put_second most m xs ys e p v h k;
      beside = (
        g.A.Register.still j.first,
        put.ensures.beside,
        record { seam = refl {a = length xs}; rest = ap (λ l. drop most (xs ++ l)) q ∙ rest_second most m xs ys e p v h k },
      );
    }

pub returns-then-plot-ge-MOST : goal.returns-then-plot-ge-MOST
returns-then-plot-ge-MOST g c =
    let j = c.args.self.now in
    let xs = g.A.Register.meaning j.first in
    let ys = g.B.Register.meaning j.second in
    let past = c.if-plot-ge-MOST.true in
    record {
      found = found_past most (xs ++ ys) c.args.plot c.args.entry past;
      plots = put_past most (xs ++ ys) c.args.plot c.args.entry past;
      beside = (g.A.Register.still j.first, g.B.Register.still j.second, seam_still xs ys);
    }
