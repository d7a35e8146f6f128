-- When a vCPU may make a step, by its own holdings alone. A mark is judged first, and the act by the hand
-- that the mark leaves.
use Rattle.std.specs.Prelude.{◌≡◌, ℕ, ◌^◌, ◌<◌, Bool, true, false, Option, Some, IsTrue}
use Rattle.xp_words.specs.Machine.{Machine}
use Rattle.xp_words.specs.declared.place.Place.{Place}
use Rattle.xp_words.specs.Places.{place_at, is_place, sizes_of}
use Rattle.xp_board.specs.declared.step.Act.{Act}
use Rattle.xp_board.specs.declared.step.Act.TheVariants.{Load, Cas, Store, Add, Max}
use Rattle.xp_board.specs.declared.step.Mark.{Mark}
use Rattle.xp_board.specs.declared.step.Step.{Step}
use Rattle.xp_board.specs.declared.step.StepKind.{StepKind}
use Rattle.xp_board.specs.declared.step.StepKind.TheVariants as steps
use Rattle.xp_board.specs.declared.holdings.Holdings.{Holdings}
use Rattle.xp_board.specs.Spelling.{IsSpelling}
use Rattle.xp_board.specs.Marks.{LegalMark, after_mark}
use Rattle.xp_board.specs.RefSteps.{LegalRef}
use Rattle.xp_board.specs.KindSteps.{LegalKind}
use Rattle.xp_board.specs.CellSteps.{LegalCell}
use Rattle.xp_board.specs.M2pSteps.{LegalM2p}
use Rattle.xp_board.specs.PagesSteps.{LegalPages}
use Rattle.xp_board.specs.ContextSteps.{LegalContext}
use Rattle.xp_board.specs.FillSteps.{LegalFill}
use Rattle.xp_board.specs.GuestSteps.{LegalGuest}
use Rattle.xp_board.specs.TickSteps.{LegalTick}
use Rattle.xp_board.specs.AskSteps.{LegalAsk}
use Rattle.xp_board.specs.AckSteps.{LegalAck}
use Rattle.xp_board.specs.LifeSteps.{LegalLife}
use Rattle.xp_board.specs.RunSteps.{LegalRun}
use Rattle.xp_board.specs.HintSteps.{LegalHint}
use Rattle.xp_board.specs.TouchSteps.{LegalTouch}
use Rattle.xp_board.specs.PrivSteps.{LegalPriv}

-- a load of any word
abbrev pub LegalLook : Act → Type 0
LegalLook Load = Unit {0}
LegalLook _ = ⊥

-- a vCPU that the vCPU has not found running makes steps of these kinds alone
abbrev pub needs_running : StepKind → Bool
needs_running steps.Look = false
needs_running steps.Tick = false
needs_running steps.Ack = false
needs_running steps.Run = false
needs_running _ = true

-- a word that is stored, or exchanged, is a spelling
abbrev pub WritesSpelling : Machine → Place → Act → Type 0
WritesSpelling m p (Cas expected new) = IsSpelling m p new
WritesSpelling m p (Store new) = IsSpelling m p new
WritesSpelling m p (Max value) = value < 2 ^ 64
WritesSpelling m p (Add by) = by < 2 ^ 64
WritesSpelling m p Load = Unit {0}

-- by kind
abbrev pub LegalAs : Machine → ℕ → Holdings → Place → Act → Option Mark → StepKind → Type 0
LegalAs m s h p a mark steps.Look = LegalLook a
LegalAs m s h p a mark steps.Ref = LegalRef m s h p a
LegalAs m s h p a mark steps.Kind = LegalKind m s h p a
LegalAs m s h p a mark steps.Cell = LegalCell m s h p a
LegalAs m s h p a mark steps.M2p = LegalM2p h p a
LegalAs m s h p a mark steps.Pages = LegalPages h p a
LegalAs m s h p a mark steps.Context = LegalContext m s h p a
LegalAs m s h p a mark steps.Fill = LegalFill s h p a mark
LegalAs m s h p a mark steps.Guest = LegalGuest h p a
LegalAs m s h p a mark steps.Tick = LegalTick p a
LegalAs m s h p a mark steps.Ask = LegalAsk m h p a
LegalAs m s h p a mark steps.Ack = LegalAck m s h p a
LegalAs m s h p a mark steps.Life = LegalLife m s h p a
LegalAs m s h p a mark steps.Run = LegalRun s h p a
LegalAs m s h p a mark steps.Hint = LegalHint h p a
LegalAs m s h p a mark steps.Touch = LegalTouch h p a
LegalAs m s h p a mark steps.Priv = LegalPriv m s h p a

-- a step by named place, so that laws need no numbers
pub record LegalMove (m : Machine) (s : ℕ) (h : Holdings) (p : Place) (a : Act) (kind : StepKind) (mark : Option Mark) : Type 0 where
  pub place : IsTrue (is_place (sizes_of m) p)
  pub marked : LegalMark m h kind mark
  pub running : IsTrue (needs_running kind) → h.run ≡ Some 0
  pub spelling : WritesSpelling m p a
  pub act : LegalAs m s (after_mark m mark h) p a mark kind

abbrev pub Legal : Machine → ℕ → Holdings → Step → Type 0
Legal m s h x = LegalMove m s h (place_at (sizes_of m) x.place) x.act x.kind x.mark
