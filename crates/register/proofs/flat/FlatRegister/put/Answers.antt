use Rattle.std.proofs.Common.{sym, refl}
use Rattle.std.proofs.Math.Seq.{take-set-lt}
use Rattle.std.proofs.lemmas.List.{drop-set-lt, set_past}
use Rattle.register.specs.Plots.{most, cut}
use Rattle.register.proofs.Cuts.{plot_there, plot_past, numbers_there, numbers_past}
use Rattle.register.proofs.flat.FlatRegister.put.Goals as goal

pub returns-in_err-found-clause-plots : goal.returns-in_err-found-clause-plots
returns-in_err-found-clause-plots c =
    let xs = c.args.self.now.numbers.now in
    let h = plot_past most xs c.args.plot c.args.entry c.in_err-found.ensures in
    sym (set_past (cut xs) c.args.plot c.args.entry h)

pub returns-in_err-found-clause-numbers : goal.returns-in_err-found-clause-numbers
returns-in_err-found-clause-numbers c =
    let xs = c.args.self.now.numbers.now in
    let h = plot_past most xs c.args.plot c.args.entry c.in_err-found.ensures in
    numbers_past most xs c.args.plot c.args.entry h

pub bounds-self-plot : goal.bounds-self-plot
bounds-self-plot c = (plot_there most _ _ _ c.in_ok-found.ensures).1

pub returns : goal.returns
returns c =
    let xs = c.args.self.now.numbers.now in
    let h = (plot_there most xs c.args.plot _ c.in_ok-found.ensures).0 in
    record {
      found = c.in_ok-found.ensures;
      plots = take-set-lt most xs c.args.plot c.args.entry h;
      beside = record { place = refl; rest = drop-set-lt most xs c.args.plot c.args.entry h };
      numbers = numbers_there most xs c.args.plot c.args.entry h;
    }
