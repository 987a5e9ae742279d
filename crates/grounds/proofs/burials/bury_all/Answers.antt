use Rattle.std.proofs.Common.{arith}
use Rattle.grounds.proofs.Turns.{found_turn, plots_turn, found_end, plots_end}
use Rattle.grounds.proofs.burials.bury_all.Goals as goal

pub loop-burial-preserved : goal.loop-burial-preserved
loop-burial-preserved g c =
    let bs = c.args.burials.now in
    let i = c.loop-burial.burial-index in
    let ps = g.R.Register.meaning c.loop-burial.ground in
    let qs = g.R.Register.meaning c.put.new.self in
    let h = c.loop-burial-test.true in
    let e = c.put.ensures.plots in
    let inv = c.loop-burial.invariant in (
      found_turn bs i ps qs h e _ _ _ _ c.push_reserved.ensures.items c.put.ensures.found inv.0,
      plots_turn bs i ps qs h e _ inv.1,
      g.R.Register.linked _ _ _ inv.2 c.put.ensures.beside,
      omega arith,
      omega arith,
    )

pub returns : goal.returns
returns g c =
    let bs = c.args.burials.now in
    let i = c.loop-burial.burial-index in
    let ps = g.R.Register.meaning c.loop-burial.ground in
    let h = c.loop-burial-test.false in
    let inv = c.loop-burial.invariant in
    record { found = found_end bs i ps h _ _ inv.0; plots = plots_end bs i ps h _ inv.1; beside = inv.2 }
