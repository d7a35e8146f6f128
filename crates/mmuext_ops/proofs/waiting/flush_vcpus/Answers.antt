use Rattle.mmuext_ops.proofs.Waited.{had_stamp, waited_course, waited_knows, waited_serves, waited_stops}
use Rattle.mmuext_ops.proofs.waiting.flush_vcpus.Goals as goal

pub flush_others-requires-clause-had : goal.flush_others-requires-clause-had
flush_others-requires-clause-had g c =
    let v = g.P.Port.value c.args.port.now in
    let m = g.P.Port.value c.look_clock-clock.new.port in
    had_stamp v m c.args.mask c.look_clock-clock.result c.unwrap_or-stamp.result c.args.awaited c.look_clock-clock.ensures.moves c.requires.known c.unwrap_or-stamp.ensures

pub returns-clause-serves : goal.returns-clause-serves
returns-clause-serves g c = λ d.
    let v = g.P.Port.value c.args.port.now in
    let m = g.P.Port.value c.look_clock-clock.new.port in
    let w = g.P.Port.value c.flush_others.new.port in
    waited_serves v m c.args.mask c.look_clock-clock.result c.unwrap_or-stamp.result c.args.awaited c.look_clock-clock.ensures.moves c.requires.known c.unwrap_or-stamp.ensures w c.flush_others.result d c.flush_others.ensures.serves c.flush_others.ensures.waits

pub returns-clause-stops : goal.returns-clause-stops
returns-clause-stops g c = λ d.
    let v = g.P.Port.value c.args.port.now in
    let m = g.P.Port.value c.look_clock-clock.new.port in
    let w = g.P.Port.value c.flush_others.new.port in
    waited_stops v m c.args.mask c.look_clock-clock.result c.unwrap_or-stamp.result c.args.awaited c.look_clock-clock.ensures.moves c.requires.known c.unwrap_or-stamp.ensures w c.flush_others.result c.flush_others.ensures.stops

pub returns-clause-awaits : goal.returns-clause-awaits
returns-clause-awaits g c =
    let v = g.P.Port.value c.args.port.now in
    let m = g.P.Port.value c.look_clock-clock.new.port in
    let w = g.P.Port.value c.flush_others.new.port in
    waited_knows v m c.args.mask c.look_clock-clock.result c.unwrap_or-stamp.result c.args.awaited c.look_clock-clock.ensures.moves c.requires.known c.unwrap_or-stamp.ensures w c.flush_others.result c.flush_others.ensures.came c.flush_others.ensures.stamp

pub returns-clause-course : goal.returns-clause-course
returns-clause-course g c =
    let v = g.P.Port.value c.args.port.now in
    let m = g.P.Port.value c.look_clock-clock.new.port in
    let w = g.P.Port.value c.flush_others.new.port in
    waited_course v m c.args.mask c.look_clock-clock.result c.unwrap_or-stamp.result c.args.awaited c.look_clock-clock.ensures.moves c.requires.known c.unwrap_or-stamp.ensures w c.flush_others.result c.flush_others.ensures.visits c.flush_others.ensures.clear
