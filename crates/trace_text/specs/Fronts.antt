-- What the lines so far say, and what one more line makes of it.
use Rattle.std.specs.Prelude.{ℕ, ◌+◌, ◌-◌, ◌^◌, min, bit_or, List, [], ◌∷◌, ◌++◌, length, slice_index, slice_index_or, slice_set, Result, Ok, Err, Bool, ◌==◌, nat_lt, nat_le, not, ◌&&◌, if◌then◌else◌}
use Rattle.std.specs.List.{list_all}
use Rattle.trace_lines.specs.declared.fault.LineFault.{LineFault}
use Rattle.trace_lines.specs.declared.fault.LineFault.TheVariants.{Passed}
use Rattle.trace_lines.specs.declared.fault.What.TheVariants as whats
use Rattle.trace_lines.specs.declared.line.Line.{Line}
use Rattle.trace_lines.specs.declared.line.Line.TheVariants as lines
use Rattle.trace_lines.specs.Steps.{bad_place, bad_range}
use Rattle.xp_words.specs.declared.ops.Op.{Op}
use Rattle.trace_text.specs.declared.trace.Own.{Own}
use Rattle.trace_text.specs.declared.trace.CellRun.{CellRun}
use Rattle.trace_text.specs.declared.trace.TurnRun.{TurnRun}
use Rattle.trace_text.specs.Counted.{numbers_in, extents_in, extents_of, destroys_in, destroys_of, ops_of, turns_of, pages_of, is_apart}

-- What the lines so far say. The place is the rank of the last line: header 1, frames 2, limit 3, clock 4,
-- domain 5, priv 6, vcpu 7, own 8, cell 9, op and turn 10, end 11.
pub record Front : Type 0 where
  pub place : ℕ
  pub version : ℕ
  pub frames : ℕ
  pub limit : ℕ
  pub clock : ℕ
  pub domains : List ℕ
  pub masks : List ℕ
  pub vcpus : List ℕ
  pub owned : List Own
  pub cells : List CellRun
  pub scripts : List (List Op)
  pub turns : List TurnRun

-- before the first line; with the limit and the clock of a trace that does not say them
abbrev pub empty_front : Front
empty_front = record { place = 0; version = 0; frames = 0; limit = 67108863; clock = 1; domains = []; masks = []; vcpus = []; owned = []; cells = []; scripts = []; turns = [] }

abbrev pub is_between : ℕ → ℕ → ℕ → Bool
is_between low high place = nat_le low place && nat_le place high

-- how a count is told that may be of any size
abbrev pub capped : ℕ → ℕ
capped n = min n (2 ^ 64 - 1)

unfoldable pub front_after_header : Front → ℕ → Result Front LineFault
front_after_header f version = if f.place == 0 then Ok (record f { place = 1; version = version }) else Err bad_place

-- how many frames a trace of that version may have
abbrev pub most_frames : ℕ → ℕ
most_frames version = if version == 2 then 65536 else 4096

unfoldable pub front_after_frames : Front → ℕ → Result Front LineFault
front_after_frames f count =
    if f.place == 1 then
    (if nat_le 1 count then
    (if nat_le count (most_frames f.version) then Ok (record f { place = 2; frames = count })
    else Err (Passed whats.Frames count))
    else Err bad_range)
    else Err bad_place

unfoldable pub front_after_limit : Front → ℕ → Result Front LineFault
front_after_limit f count =
    if f.place == 2 then
    (if is_between 2 67108863 count then Ok (record f { place = 3; limit = count })
    else Err bad_range)
    else Err bad_place

unfoldable pub front_after_clock : Front → ℕ → Result Front LineFault
front_after_clock f start =
    if is_between 2 3 f.place then
    (if is_between 1 68719476734 start then Ok (record f { place = 4; clock = start })
    else Err bad_range)
    else Err bad_place

unfoldable pub front_after_domain : Front → ℕ → Result Front LineFault
front_after_domain f limit =
    if is_between 2 5 f.place then
    (if nat_le limit 65536 then
    (if nat_lt (length f.domains) 16 then Ok (record f { place = 5; domains = f.domains ++ limit ∷ []; masks = f.masks ++ 0 ∷ [] })
    else Err (Passed whats.Domains (length f.domains + 1)))
    else Err bad_range)
    else Err bad_place

-- two different domains
abbrev pub may_rule : Front → ℕ → ℕ → Bool
may_rule f domain over = nat_lt domain (length f.domains) && (nat_lt over (length f.domains) && not (domain == over))

unfoldable pub front_after_priv : Front → ℕ → ℕ → Result Front LineFault
front_after_priv f domain over =
    if is_between 5 6 f.place then
    (if may_rule f domain over then Ok (record f { place = 6; masks = slice_set f.masks domain (bit_or (slice_index f.masks domain) (2 ^ over)) })
    else Err bad_range)
    else Err bad_place

unfoldable pub front_after_vcpu : Front → ℕ → Result Front LineFault
front_after_vcpu f domain =
    if is_between 5 7 f.place then
    (if nat_lt domain (length f.domains) then
    (if nat_lt (length f.vcpus) 16 then Ok (record f { place = 7; vcpus = f.vcpus ++ domain ∷ []; scripts = f.scripts ++ [] ∷ [] })
    else Err (Passed whats.Vcpus (length f.vcpus + 1)))
    else Err bad_range)
    else Err bad_place

-- One frame or more of the machine, none of them owned yet, and no more than the domain may still have.
unfoldable pub may_own : Front → Own → Bool
may_own f o =
    nat_lt o.domain (length f.domains) && (nat_le 1 o.count && (nat_le (o.first + o.count) f.frames &&
    (list_all (is_apart o) f.owned && nat_le (pages_of o.domain f.owned + o.count) (slice_index f.domains o.domain))))

unfoldable pub front_after_own : Front → Own → Result Front LineFault
front_after_own f o =
    if is_between 7 8 f.place then
    (if may_own f o then Ok (record f { place = 8; owned = f.owned ++ o ∷ [] })
    else Err bad_range)
    else Err bad_place

-- one cell or more of a frame of the machine
abbrev pub may_fill : Front → CellRun → Bool
may_fill f c = nat_lt c.frame f.frames && (nat_le 1 c.count && nat_le (c.first + c.count) 512)

unfoldable pub front_after_cell : Front → CellRun → Result Front LineFault
front_after_cell f c =
    if is_between 7 9 f.place then
    (if may_fill f c then Ok (record f { place = 9; cells = f.cells ++ c ∷ [] })
    else Err bad_range)
    else Err bad_place

-- the lines so far with one more operation of that vCPU
abbrev pub with_op : Front → ℕ → Op → Front
with_op f vcpu op = record f { place = 10; scripts = slice_set f.scripts vcpu (slice_index_or f.scripts vcpu [] ++ op ∷ []) }

unfoldable pub front_after_op : Front → ℕ → Op → Result Front LineFault
front_after_op f vcpu op =
    if is_between 7 10 f.place then
    (if nat_lt vcpu (length f.vcpus) then
    (if nat_lt (ops_of f.scripts) 65536 then
    (if nat_le (destroys_of f.scripts + destroys_in op) 16 then
    (if nat_le (numbers_in op) 8192 then
    (if nat_le (extents_of f.scripts + extents_in op) 1000000 then Ok (with_op f vcpu op)
    else Err (Passed whats.Extents (capped (extents_of f.scripts + extents_in op))))
    else Err (Passed whats.Numbers (capped (numbers_in op))))
    else Err (Passed whats.Destroys (destroys_of f.scripts + destroys_in op)))
    else Err (Passed whats.Ops (ops_of f.scripts + 1)))
    else Err bad_range)
    else Err bad_place

unfoldable pub front_after_turn : Front → TurnRun → Result Front LineFault
front_after_turn f t =
    if is_between 7 10 f.place then
    (if nat_lt t.vcpu (length f.vcpus) then
    (if nat_le (turns_of f.turns + t.count) 1000000 then Ok (record f { place = 10; turns = f.turns ++ t ∷ [] })
    else Err (Passed whats.Turns (capped (turns_of f.turns + t.count))))
    else Err bad_range)
    else Err bad_place

unfoldable pub front_after_end : Front → Result Front LineFault
front_after_end f = if is_between 7 10 f.place then Ok (record f { place = 11 }) else Err bad_place

-- what the lines so far and one more say
unfoldable pub front_after : Front → Line → Result Front LineFault
front_after f (lines.Header version) = front_after_header f version
front_after f (lines.Frames count) = front_after_frames f count
front_after f (lines.Limit count) = front_after_limit f count
front_after f (lines.Clock start) = front_after_clock f start
front_after f (lines.Domain limit) = front_after_domain f limit
front_after f (lines.Priv domain over) = front_after_priv f domain over
front_after f (lines.Vcpu domain) = front_after_vcpu f domain
front_after f (lines.Own domain first count) = front_after_own f (record { domain = domain; first = first; count = count })
front_after f (lines.Cell frame first count value) = front_after_cell f (record { frame = frame; first = first; count = count; value = value })
front_after f (lines.Op vcpu op) = front_after_op f vcpu op
front_after f (lines.Turn vcpu count) = front_after_turn f (record { vcpu = vcpu; count = count })
front_after f lines.End = front_after_end f
