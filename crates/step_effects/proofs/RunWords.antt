-- No vCPU changes the run word of another one.
use Rattle.std.proofs.Common.{◌≡◌, ◌≢◌, ℕ, Option, arith, refl, inl, inr}
use Rattle.xp_words.specs.Machine.{Machine}
use Rattle.xp_words.specs.Places.{run_of}
use Rattle.xp_board.specs.declared.step.Act.{Act}
use Rattle.xp_board.specs.declared.step.Act.TheVariants.{Load, Cas, Store, Add, Max}
use Rattle.xp_board.specs.declared.step.Mark.{Mark}
use Rattle.xp_board.specs.declared.step.StepKind.{StepKind}
use Rattle.xp_board.specs.declared.step.StepKind.TheVariants as steps
use Rattle.xp_board.specs.declared.holdings.Holdings.{Holdings}
use Rattle.xp_board.specs.Acts.{left_by}
use Rattle.xp_board.specs.Legal.{LegalAs}

pub run_kept : (n : Machine) (s t : ℕ) (h : Holdings) (act : Act) (mark : Option Mark) (by : StepKind) (w : ℕ) → t ≢ s → LegalAs n s h (run_of t) act mark by → left_by act w ≡ w
unfolding left_by
run_kept n s t h Load mark by w off legal = refl
run_kept n s t h act mark steps.Ref w off legal = absurd legal
run_kept n s t h act mark steps.Kind w off legal = absurd legal
run_kept n s t h act mark steps.Cell w off legal = absurd legal
run_kept n s t h act mark steps.M2p w off legal = absurd legal
run_kept n s t h act mark steps.Pages w off legal = absurd legal
run_kept n s t h act mark steps.Guest w off legal = absurd legal
run_kept n s t h act mark steps.Tick w off legal = absurd legal
run_kept n s t h act mark steps.Life w off legal = absurd legal
run_kept n s t h act mark steps.Hint w off legal = absurd legal
run_kept n s t h act mark steps.Touch w off legal = absurd legal
run_kept n s t h act mark steps.Priv w off legal = absurd legal
run_kept n s t h (Cas x y) mark steps.Look w off legal = absurd legal
run_kept n s t h (Store x) mark steps.Look w off legal = absurd legal
run_kept n s t h (Add x) mark steps.Look w off legal = absurd legal
run_kept n s t h (Max x) mark steps.Look w off legal = absurd legal
run_kept n s t h (Cas x y) mark steps.Fill w off legal = absurd legal
run_kept n s t h (Store x) mark steps.Fill w off legal = absurd legal
run_kept n s t h (Add x) mark steps.Fill w off legal = absurd legal
run_kept n s t h (Max x) mark steps.Fill w off legal = absurd legal
run_kept n s t h (Cas x y) mark steps.Context w off legal = absurd legal
run_kept n s t h (Store x) mark steps.Context w off (inl named) = absurd (off named.own)
run_kept n s t h (Store x) mark steps.Context w off (inr (inl based)) = absurd (off based.own)
run_kept n s t h (Store x) mark steps.Context w off (inr (inr emptied)) = absurd (let e = emptied.word in cc)
run_kept n s t h (Add x) mark steps.Context w off legal = absurd legal
run_kept n s t h (Max x) mark steps.Context w off legal = absurd legal
run_kept n s t h (Cas x y) mark steps.Ack w off legal = absurd legal
run_kept n s t h (Store x) mark steps.Ack w off legal = absurd (off legal.own)
run_kept n s t h (Add x) mark steps.Ack w off legal = absurd legal
run_kept n s t h (Max x) mark steps.Ack w off legal = absurd legal
run_kept n s t h (Cas x y) mark steps.Run w off legal = absurd legal
run_kept n s t h (Store x) mark steps.Run w off legal = absurd (off legal.0)
run_kept n s t h (Add x) mark steps.Run w off legal = absurd legal
run_kept n s t h (Max x) mark steps.Run w off legal = absurd legal
run_kept n s t h (Cas x y) mark steps.Ask w off legal = absurd legal
run_kept n s t h (Store x) mark steps.Ask w off legal = absurd legal
run_kept n s t h (Add x) mark steps.Ask w off legal = absurd legal
run_kept n s t h (Max x) mark steps.Ask w off legal = absurd (let e = legal.0 in omega arith)
