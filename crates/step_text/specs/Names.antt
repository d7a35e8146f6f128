-- The words of a machine by name, and what a step is for, does and means, as they are written.
use Rattle.std.specs.Prelude.{ℕ, ◌-◌, ◌^◌, ◌==◌, nat_lt, if◌then◌else◌, Bool, true, false, List, [], ◌++◌, Option, Some, None, codes, decimal}
use Rattle.xp_words.specs.declared.place.Place.{Place}
use Rattle.xp_words.specs.declared.place.Place.TheVariants as places
use Rattle.xp_board.specs.declared.step.Act.{Act}
use Rattle.xp_board.specs.declared.step.Act.TheVariants.{Load, Cas, Store, Add, Max}
use Rattle.xp_board.specs.declared.step.Mark.{Mark}
use Rattle.xp_board.specs.declared.step.Mark.TheVariants.{Record, Shed, Forget, Cut, Turn, Walk}
use Rattle.xp_board.specs.declared.step.StepKind.{StepKind}
use Rattle.xp_board.specs.declared.step.StepKind.TheVariants as kinds
use Rattle.report_text.specs.WordTexts.{hex}

-- what a step is for
unfoldable pub kind_text : StepKind → List ℕ
kind_text kinds.Look = codes "look"
kind_text kinds.Ref = codes "ref"
kind_text kinds.Kind = codes "kind"
kind_text kinds.Cell = codes "cell"
kind_text kinds.M2p = codes "m2p"
kind_text kinds.Pages = codes "pages"
kind_text kinds.Context = codes "context"
kind_text kinds.Fill = codes "fill"
kind_text kinds.Guest = codes "guest"
kind_text kinds.Tick = codes "tick"
kind_text kinds.Ask = codes "ask"
kind_text kinds.Ack = codes "ack"
kind_text kinds.Life = codes "life"
kind_text kinds.Run = codes "run"
kind_text kinds.Hint = codes "hint"
kind_text kinds.Touch = codes "touch"
kind_text kinds.Priv = codes "priv"

-- word k of a vCPU
unfoldable pub word_text : ℕ → List ℕ
word_text k =
    if k == 0 then codes "base"
    else if k == 1 then codes "user-base"
    else if k == 2 then codes "old0"
    else if k == 3 then codes "old1"
    else if k == 4 then codes "asked"
    else if k == 5 then codes "flushed"
    else if k == 6 then codes "run"
    else if k == 7 then codes "ldt-base"
    else if nat_lt k 22 then codes "gdt " ++ decimal (k - 8)
    else codes "ldt " ++ decimal (k - 22)

-- a word of the machine
unfoldable pub place_text : Place → List ℕ
place_text places.Clock = codes "clock"
place_text (places.Pages d) = codes "pages " ++ decimal d
place_text (places.Life d) = codes "life " ++ decimal d
place_text (places.Vcpu v k) = codes "vcpu " ++ (decimal v ++ (codes " " ++ word_text k))
place_text (places.Refs f) = codes "refs " ++ decimal f
place_text (places.Kind f) = codes "kind " ++ decimal f
place_text (places.M2p f) = codes "m2p " ++ decimal f
place_text (places.Cell f i) = codes "cell " ++ (decimal f ++ (codes " " ++ decimal i))
place_text (places.Map k) = codes "map " ++ decimal k
place_text (places.Priv d) = codes "priv " ++ decimal d

-- what is added modulo 2^64: from 2^63 on it is written as what it takes away
unfoldable pub sum_text : ℕ → List ℕ
sum_text by = if nat_lt by (2 ^ 63) then hex by else codes "-" ++ hex (2 ^ 64 - by)

-- what a step does to its word
unfoldable pub act_text : Act → List ℕ
act_text Load = codes "load"
act_text (Cas expected new) = codes "cas " ++ (hex expected ++ (codes " to " ++ hex new))
act_text (Store new) = codes "store " ++ hex new
act_text (Add by) = codes "add " ++ sum_text by
act_text (Max value) = codes "max " ++ hex value

abbrev pub access_text : Bool → List ℕ
access_text true = codes "write"
access_text false = codes "read"

-- what a step means beside its act
unfoldable pub mark_text : Option Mark → List ℕ
mark_text None = []
mark_text (Some (Record frame upto)) = codes " record " ++ (decimal frame ++ (codes " " ++ decimal upto))
mark_text (Some (Shed frame upto)) = codes " shed " ++ (decimal frame ++ (codes " " ++ decimal upto))
mark_text (Some (Forget page)) = codes " forget " ++ hex page
mark_text (Some (Cut call)) = codes " cut " ++ decimal call
mark_text (Some Turn) = codes " turn"
mark_text (Some (Walk write)) = codes " walk " ++ access_text write
