-- The text of a line.
use Rattle.std.specs.Prelude.{◌≡◌, ℕ, ◌<◌, ◌^◌, List, [], ◌∷◌, map, length, Bool, if◌then◌else◌, ◌⊎◌, codes, decimal, All}
use Rattle.std.specs.List.{flat_map, join_by}
use Rattle.xp_words.specs.declared.ops.Pair.{Pair}
use Rattle.xp_words.specs.declared.ops.ExtOp.{ExtOp}
use Rattle.xp_words.specs.declared.ops.Call.{Call}
use Rattle.xp_words.specs.declared.ops.Call.TheVariants as calls
use Rattle.xp_words.specs.declared.ops.Op.{Op}
use Rattle.xp_words.specs.declared.ops.Op.TheVariants as ops
use Rattle.trace_lines.specs.declared.line.Line.{Line}
use Rattle.trace_lines.specs.declared.line.Line.TheVariants as lines

-- words, with a space before each of them
abbrev pub spaced : List (List ℕ) → List ℕ
spaced ws = flat_map (λ w. 32 ∷ w) ws

-- words, with a space between two of them
abbrev pub words_text : List (List ℕ) → List ℕ
words_text ws = join_by (λ w. w) (32 ∷ []) ws

-- a list of numbers
abbrev pub number_words : List ℕ → List (List ℕ)
number_words ns = map decimal ns

-- a list of pairs
abbrev pub pair_words : List Pair → List (List ℕ)
pair_words ps = flat_map (λ p. decimal p.ptr ∷ decimal p.val ∷ []) ps

-- a list of triples
abbrev pub triple_words : List ExtOp → List (List ℕ)
triple_words list = flat_map (λ x. decimal x.command ∷ decimal x.first ∷ decimal x.second ∷ []) list

-- a call: its name and its numbers
abbrev pub call_words : Call → List (List ℕ)
call_words (calls.Mmu foreign pairs) = codes "mmu" ∷ decimal foreign ∷ pair_words pairs
call_words (calls.Ext list) = codes "ext" ∷ triple_words list
call_words (calls.Va va val flags) = codes "va" ∷ decimal va ∷ decimal val ∷ decimal flags ∷ []
call_words (calls.VaOther va val flags domain) = codes "vaother" ∷ decimal va ∷ decimal val ∷ decimal flags ∷ decimal domain ∷ []
call_words (calls.Gdt entries frames) = codes "gdt" ∷ decimal entries ∷ number_words frames
call_words (calls.Desc address word) = codes "desc" ∷ decimal address ∷ decimal word ∷ []
call_words (calls.Mem command order items) = codes "mem" ∷ decimal command ∷ decimal order ∷ number_words items

-- calls, with the word `;` between two of them
abbrev pub calls_words : List Call → List (List ℕ)
calls_words list = join_by call_words (codes ";" ∷ []) list

-- the word for one of the two bases
abbrev pub base_word : Bool → List ℕ
base_word user = if user then codes "u" else codes "k"

-- an operation: its name, and its numbers or calls
abbrev pub op_words : Op → List (List ℕ)
op_words (ops.One call) = call_words call
op_words (ops.Multi list) = codes "multi" ∷ calls_words list
op_words (ops.Read user va) = codes "read" ∷ base_word user ∷ decimal va ∷ []
op_words (ops.Write user va val) = codes "write" ∷ base_word user ∷ decimal va ∷ decimal val ∷ []
op_words (ops.TouchLdt page) = codes "ldt" ∷ decimal page ∷ []
op_words (ops.Destroy domain) = codes "destroy" ∷ decimal domain ∷ []
op_words (ops.Grant to over) = codes "grant" ∷ decimal to ∷ decimal over ∷ []
op_words (ops.Revoke to over) = codes "revoke" ∷ decimal to ∷ decimal over ∷ []
op_words (ops.Ptwr user va val) = codes "ptwr" ∷ base_word user ∷ decimal va ∷ decimal val ∷ []
op_words (ops.Xchg first before after items) = codes "xchg" ∷ decimal first ∷ decimal before ∷ decimal after ∷ number_words items

-- a line: its keyword and what stands behind it
abbrev pub line_words : Line → List (List ℕ)
line_words (lines.Header version) = codes "xen-pv-trace" ∷ decimal version ∷ []
line_words (lines.Frames count) = codes "frames" ∷ decimal count ∷ []
line_words (lines.Limit count) = codes "limit" ∷ decimal count ∷ []
line_words (lines.Clock start) = codes "clock" ∷ decimal start ∷ []
line_words (lines.Domain limit) = codes "domain" ∷ decimal limit ∷ []
line_words (lines.Priv domain over) = codes "priv" ∷ decimal domain ∷ decimal over ∷ []
line_words (lines.Vcpu domain) = codes "vcpu" ∷ decimal domain ∷ []
line_words (lines.Own domain first count) = codes "own" ∷ decimal domain ∷ decimal first ∷ decimal count ∷ []
line_words (lines.Cell frame first count value) = codes "cell" ∷ decimal frame ∷ decimal first ∷ decimal count ∷ decimal value ∷ []
line_words (lines.Op vcpu op) = codes "op" ∷ decimal vcpu ∷ op_words op
line_words (lines.Turn vcpu count) = codes "turn" ∷ decimal vcpu ∷ decimal count ∷ []
line_words lines.End = codes "end" ∷ []

-- a line without its line feed, every number in decimal
unfoldable pub line_text : Line → List ℕ
line_text l = words_text (line_words l)

-- ---- the lines that their text says: every number is a word of the machine

-- both numbers of a pair are words
abbrev pub IsSpellablePair : Pair → Type 0
IsSpellablePair p = (p.ptr < 2 ^ 64) × (p.val < 2 ^ 64)

-- all three numbers of an element are words
abbrev pub IsSpellableExt : ExtOp → Type 0
IsSpellableExt x = (x.command < 2 ^ 64) × (x.first < 2 ^ 64) × (x.second < 2 ^ 64)

-- each number of a list is a word
abbrev pub AreWords : List ℕ → Type 0
AreWords ns = All (λ n. n < 2 ^ 64) ns

-- each number of a call is a word
abbrev pub IsSpellableCall : Call → Type 0
IsSpellableCall (calls.Mmu foreign pairs) = (foreign < 2 ^ 64) × All IsSpellablePair pairs
IsSpellableCall (calls.Ext list) = All IsSpellableExt list
IsSpellableCall (calls.Va va val flags) = (va < 2 ^ 64) × (val < 2 ^ 64) × (flags < 2 ^ 64)
IsSpellableCall (calls.VaOther va val flags domain) = (va < 2 ^ 64) × (val < 2 ^ 64) × (flags < 2 ^ 64) × (domain < 2 ^ 64)
IsSpellableCall (calls.Gdt entries frames) = (entries < 2 ^ 64) × AreWords frames
IsSpellableCall (calls.Desc address word) = (address < 2 ^ 64) × (word < 2 ^ 64)
IsSpellableCall (calls.Mem command order items) = (command < 2 ^ 64) × (order < 2 ^ 64) × AreWords items

-- an operation that the version has; a multi has a call
abbrev pub IsSpellableOp : ℕ → Op → Type 0
IsSpellableOp version (ops.One call) = IsSpellableCall call
IsSpellableOp version (ops.Multi list) = (0 < length list) × All IsSpellableCall list
IsSpellableOp version (ops.Read user va) = va < 2 ^ 64
IsSpellableOp version (ops.Write user va val) = (va < 2 ^ 64) × (val < 2 ^ 64)
IsSpellableOp version (ops.TouchLdt page) = page < 2 ^ 64
IsSpellableOp version (ops.Destroy domain) = domain < 2 ^ 64
IsSpellableOp version (ops.Grant to over) = (version ≡ 2) × (to < 2 ^ 64) × (over < 2 ^ 64)
IsSpellableOp version (ops.Revoke to over) = (version ≡ 2) × (to < 2 ^ 64) × (over < 2 ^ 64)
IsSpellableOp version (ops.Ptwr user va val) = (version ≡ 2) × (va < 2 ^ 64) × (val < 2 ^ 64)
IsSpellableOp version (ops.Xchg first before after items) = (version ≡ 2) × (first < 2 ^ 64) × (before < 2 ^ 64) × (after < 2 ^ 64) × AreWords items

-- a line of a trace of that version
abbrev pub IsSpellable : ℕ → Line → Type 0
IsSpellable version (lines.Header own) = (own ≡ 1) ⊎ (own ≡ 2)
IsSpellable version (lines.Frames count) = count < 2 ^ 64
IsSpellable version (lines.Limit count) = count < 2 ^ 64
IsSpellable version (lines.Clock start) = start < 2 ^ 64
IsSpellable version (lines.Domain limit) = limit < 2 ^ 64
IsSpellable version (lines.Priv domain over) = (domain < 2 ^ 64) × (over < 2 ^ 64)
IsSpellable version (lines.Vcpu domain) = domain < 2 ^ 64
IsSpellable version (lines.Own domain first count) = (domain < 2 ^ 64) × (first < 2 ^ 64) × (count < 2 ^ 64)
IsSpellable version (lines.Cell frame first count value) = (frame < 2 ^ 64) × (first < 2 ^ 64) × (count < 2 ^ 64) × (value < 2 ^ 64)
IsSpellable version (lines.Op vcpu op) = (vcpu < 2 ^ 64) × IsSpellableOp version op
IsSpellable version (lines.Turn vcpu count) = (vcpu < 2 ^ 64) × (count < 2 ^ 64)
IsSpellable version lines.End = Unit {0}
