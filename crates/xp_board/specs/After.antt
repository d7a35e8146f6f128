-- What a vCPU holds after a step that found this word.
use Rattle.std.specs.Prelude.{ℕ, ◌+◌, ◌==◌, ◌&&◌, not, if◌then◌else◌, Bool, false, List, [], ◌∷◌, Option, Some, None}
use Rattle.xp_words.specs.declared.kind.PageType.TheVariants as kinds
use Rattle.xp_words.specs.Entries.{fixed}
use Rattle.xp_words.specs.KindWords.{kind_fields}
use Rattle.xp_words.specs.Machine.{Machine}
use Rattle.xp_words.specs.declared.place.Place.{Place}
use Rattle.xp_words.specs.declared.place.Place.TheVariants.{Life, Vcpu, Cell}
use Rattle.xp_words.specs.Places.{place_at, sizes_of}
use Rattle.xp_board.specs.declared.step.Act.{Act}
use Rattle.xp_board.specs.declared.step.Mark.{Mark}
use Rattle.xp_board.specs.declared.step.Step.{Step}
use Rattle.xp_board.specs.declared.step.StepKind.{StepKind}
use Rattle.xp_board.specs.declared.step.StepKind.TheVariants as steps
use Rattle.xp_board.specs.declared.holdings.Unsettled.{Unsettled}
use Rattle.xp_board.specs.declared.holdings.Work.{Work}
use Rattle.xp_board.specs.declared.holdings.Lock.{Lock}
use Rattle.xp_board.specs.declared.holdings.Claimed.{Claimed}
use Rattle.xp_board.specs.declared.holdings.Made.{Made}
use Rattle.xp_board.specs.declared.holdings.Holdings.{Holdings}
use Rattle.xp_board.specs.Acts.{left_by}
use Rattle.xp_board.specs.Lists.{kept_of}
use Rattle.xp_board.specs.Readings.{is_type}
use Rattle.xp_board.specs.Hands.{changed_work, changed_lock, changed_claim, empty}
use Rattle.xp_board.specs.Marks.{after_mark}
use Rattle.xp_board.specs.RefSteps.{after_ref}
use Rattle.xp_board.specs.KindSteps.{after_kind}
use Rattle.xp_board.specs.CellSteps.{after_cell}
use Rattle.xp_board.specs.PagesSteps.{after_pages}
use Rattle.xp_board.specs.ContextSteps.{after_context}
use Rattle.xp_board.specs.FillSteps.{after_fill}
use Rattle.xp_board.specs.AckSteps.{after_ack}
use Rattle.xp_board.specs.RunSteps.{after_run}
use Rattle.xp_board.specs.HintSteps.{after_hint}
use Rattle.xp_board.specs.TouchSteps.{after_touch}

-- ---- what the act moves, by kind
abbrev pub after_act : Machine → ℕ → Place → Act → StepKind → Option Mark → ℕ → Holdings → Holdings
after_act m s p a steps.Look mark w h = h
after_act m s p a steps.Ref mark w h = after_ref m s p a w h
after_act m s p a steps.Kind mark w h = after_kind m s p a w h
after_act m s p a steps.Cell mark w h = after_cell p a w h
after_act m s p a steps.M2p mark w h = h
after_act m s p a steps.Pages mark w h = after_pages p a w h
after_act m s p a steps.Context mark w h = after_context p a w h
after_act m s p a steps.Fill mark w h = after_fill m p mark w h
after_act m s p a steps.Guest mark w h = h
after_act m s p a steps.Tick mark w h = h
after_act m s p a steps.Ask mark w h = h
after_act m s p a steps.Ack mark w h = after_ack h
after_act m s p a steps.Life mark w h = h
after_act m s p a steps.Run mark w h = after_run a h
after_act m s p a steps.Hint mark w h = after_hint p a h
after_act m s p a steps.Touch mark w h = after_touch m p a w h
after_act m s p a steps.Priv mark w h = h

-- ---- what any step learns of the word that it leaves
abbrev pub is_fixed_in : ℕ → Option ℕ → Bool
is_fixed_in w (Some x) = w == x
is_fixed_in w None = false

-- the word is its own fixed form
abbrev pub is_fixed : ℕ → Bool
is_fixed w = is_fixed_in w (fixed w)

-- the last recorded entry, once it is loaded
abbrev pub learned_last : ℕ → ℕ → ℕ → Option Unsettled → Option Unsettled
learned_last i recorded w (Some u) = if i + 1 == recorded then Some (record u { word = Some w }) else Some u
learned_last i recorded w None = None

-- the next word of a descriptor page, and it is fixed
abbrev pub counts_fixed : ℕ → ℕ → Work → Bool
counts_fixed i w e = is_type (kind_fields e.word).kind kinds.Desc && ((i == e.fixed) && is_fixed w)

-- a cell of a frame in the own work tells nothing while the frame is marked
abbrev pub learned_work : ℕ → ℕ → Work → Work
learned_work i w e =
    if (kind_fields e.word).unflushed then e
    else record e {
      seen = Some (record { index = i; word = w });
      unsettled = learned_last i e.recorded w e.unsettled;
      fixed = if counts_fixed i w e then e.fixed + 1 else e.fixed;
    }

abbrev pub learned_lock : ℕ → ℕ → Lock → Lock
learned_lock i w e = record e { seen = Some (record { index = i; word = w }) }

abbrev pub learned_claim : ℕ → ℕ → Claimed → Claimed
learned_claim i w e = record e { scrubbed = if (i == e.scrubbed) && (w == 0) then e.scrubbed + 1 else e.scrubbed }

abbrev pub learned_cell : ℕ → ℕ → ℕ → Holdings → Holdings
learned_cell f i w h =
    record h {
      works = changed_work f (learned_work i w) h.works;
      locks = changed_lock f (learned_lock i w) h.locks;
      claimed = changed_claim f (learned_claim i w) h.claimed;
    }

-- the own words
abbrev pub learned_own : ℕ → ℕ → Holdings → Holdings
learned_own k w h =
    if k == 2 then record h { old0 = Some w }
    else if k == 3 then record h { old1 = Some w }
    else if k == 6 then record h { run = Some w }
    else h

-- a domain that was found alive is not looked at any more
abbrev pub learned_life : ℕ → ℕ → Holdings → Holdings
learned_life d found h = if found == 0 then record h { looking = kept_of (λ e. not (e.owner == d)) h.looking } else h

abbrev pub learned : ℕ → Place → ℕ → ℕ → Holdings → Holdings
learned s (Cell f i) found left h = learned_cell f i left h
learned s (Vcpu v k) found left h = if v == s then learned_own k left h else h
learned s (Life d) found left h = learned_life d found h
learned s _ found left h = h

-- ---- all of it
abbrev pub noted : Step → ℕ → Holdings → Holdings
noted x found h = record h { steps = record { step = x; found = found } ∷ h.steps }

abbrev pub after_move : Machine → ℕ → Holdings → Place → Act → StepKind → Option Mark → ℕ → Holdings
after_move m s h p a kind mark found = learned s p found (left_by a found) (after_act m s p a kind mark found (after_mark m mark h))

abbrev pub after : Machine → ℕ → Holdings → Step → ℕ → Holdings
after m s h x found = noted x found (after_move m s h (place_at (sizes_of m) x.place) x.act x.kind x.mark found)

-- the holdings of a vCPU are a function of its own steps and of the words that they found
unfoldable pub hands_of : Machine → ℕ → List Made → Holdings
hands_of m s [] = empty
hands_of m s (x ∷ xs) = after m s (hands_of m s xs) x.step x.found
