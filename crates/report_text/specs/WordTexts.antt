-- How words are printed. A number that is no spelling of a word is printed in hex.
use Rattle.std.specs.Prelude.{ℕ, ◌-◌, ◌^◌, ◌==◌, ◌||◌, if◌then◌else◌, Bool, true, false, List, [], ◌++◌, Option, Some, None, codes, decimal}
use Rattle.std.specs.Fmt.{digits}
use Rattle.xp_words.specs.declared.context.ContextWord.{ContextWord}
use Rattle.xp_words.specs.declared.kind.KindWord.{KindWord}
use Rattle.xp_words.specs.declared.kind.PageType.{PageType}
use Rattle.xp_words.specs.declared.kind.PageType.TheVariants as kinds
use Rattle.xp_words.specs.declared.refs.RefWord.{RefWord}
use Rattle.xp_words.specs.declared.refs.RefWord.TheVariants.{Free, Owned, Dying}
use Rattle.xp_words.specs.ContextWords.{context_read}
use Rattle.xp_words.specs.KindWords.{kind_read}
use Rattle.xp_words.specs.RefWords.{ref_read}

-- lower-case hexadecimal digits behind `0x`
abbrev pub hex : ℕ → List ℕ
hex n = codes "0x" ++ digits 16 false n

-- a frame's number, `-` for none
abbrev pub frame_or_dash : Option ℕ → List ℕ
frame_or_dash None = codes "-"
frame_or_dash (Some f) = decimal f

-- the text of a context word that is read so
abbrev pub context_by : ℕ → Option ContextWord → List ℕ
context_by w None = hex w
context_by w (Some c) = frame_or_dash c.frame

-- a context word: the number of its frame, `-` for none
unfoldable pub context_text : ℕ → List ℕ
context_text w = context_by w (context_read w)

-- the text of a reference word that is read so
abbrev pub ref_by : ℕ → Option RefWord → List ℕ
ref_by w None = hex w
ref_by w (Some (Free stamp)) = codes "free"
ref_by w (Some (Owned owner true count)) = codes "d" ++ (decimal owner ++ (codes "," ++ (decimal count ++ codes ",a")))
ref_by w (Some (Owned owner false count)) = codes "d" ++ (decimal owner ++ (codes "," ++ decimal count))
ref_by w (Some (Dying owner)) = codes "d" ++ (decimal owner ++ codes ",0")

-- a reference word in a log line: `free`, `dO,C,a`, `dO,C` or `dO,0`
unfoldable pub ref_text : ℕ → List ℕ
ref_text w = ref_by w (ref_read w)

-- the name of a type
unfoldable pub type_text : PageType → List ℕ
type_text kinds.None = codes "none"
type_text kinds.L1 = codes "L1"
type_text kinds.L2 = codes "L2"
type_text kinds.L3 = codes "L3"
type_text kinds.L4 = codes "L4"
type_text kinds.Desc = codes "desc"
type_text kinds.Writable = codes "wr"

-- the type count: the number of a validated frame, 1 in work and partial, 0 where dead
abbrev pub printed_type_count : KindWord → ℕ
printed_type_count k = if k.validated then k.number else if k.locked || k.partial then 1 else 0

-- the letter where the mark is set
abbrev pub letter : Bool → List ℕ → List ℕ
letter set text = if set then text else []

-- whether any mark is set
abbrev pub is_marked : KindWord → Bool
is_marked k = k.pinned || k.validated || k.partial || k.locked || k.kept || k.unflushed

-- the letters of the marks that are set, `-` where there is none
unfoldable pub flags_text : KindWord → List ℕ
flags_text k =
    if is_marked k
    then letter k.pinned (codes "p")
    ++ (letter k.validated (codes "v") ++ (letter k.partial (codes "h") ++ (letter k.locked (codes "l") ++ (letter k.kept (codes "k") ++ letter k.unflushed (codes "u")))))
    else codes "-"

-- the text of a kind word that is read so
abbrev pub kind_by : ℕ → Option KindWord → List ℕ
kind_by w None = hex w
kind_by w (Some k) = type_text k.kind ++ (codes "," ++ (decimal (printed_type_count k) ++ (codes "," ++ flags_text k)))

-- a kind word in a log line: type, type count, flags
unfoldable pub kind_text : ℕ → List ℕ
kind_text w = kind_by w (kind_read w)

-- the life word of a domain: 0 is live, 255 dead, and one more than the vCPU that destroys it dying
unfoldable pub life_text : ℕ → List ℕ
life_text w = if w == 0 then codes "live" else if w == 255 then codes "dead" else codes "dying"

-- a machine-to-physical word: `-` for none
unfoldable pub m2p_text : ℕ → List ℕ
m2p_text w = if w == 2 ^ 64 - 1 then codes "-" else hex w
