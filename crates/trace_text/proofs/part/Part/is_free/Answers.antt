use Rattle.std.proofs.Common.{◌≡◌, ap, arith}
use Rattle.trace_text.specs.Fronts.{Front}
use Rattle.trace_text.proofs.Runs.{AreTaken, free_is_apart}
use Rattle.trace_text.proofs.part.Part.is_free.Goals as goal

pub returns : goal.returns
returns c =
    let all : AreTaken c.self.inside.taken.items c.self.inside.owned.items = record {
      are = λ k within. c.self.invariant.2.taken_are k (omega (arith, c.self.invariant.2.each_frame));
      some = λ k d within. (c.self.invariant.1.owned k d within).some;
    } in
    let frames : c.self.inside.frames ≡ c.args.self.now.frames = ap (λ (f : Front). f.frames) c.self.view_is in
    rw (c.is_free.ensures, c.deref.ensures.value, ← c.self.view_is) (free_is_apart _ _ (record { domain = 0; first = c.args.first; count = c.args.count }) all c.requires.some (omega (arith, frames)))
