-- Elements about whole pages: frames cleared and copied, descriptor pages, the GDT and the LDT, and single descriptors.
use Rattle.std.specs.Prelude.{ℕ, ◌+◌, ◌==◌, ◌&&◌, nat_lt, is_none, if◌then◌else◌, Bool, List, [], ◌∷◌, Option, Some, None}
use Rattle.xp_words.specs.ContextWords.{ldt_write}
use Rattle.xp_words.specs.Entries.{fixed}
use Rattle.xp_words.specs.Machine.{Machine}
use Rattle.xp_words.specs.declared.kind.KindWord.{KindWord}
use Rattle.xp_words.specs.declared.kind.PageType.TheVariants as kinds
use Rattle.xp_words.specs.declared.reply.Refusal.TheVariants.{BadDescriptor}
use Rattle.xp_board.specs.Readings.{is_dead, is_type}
use Rattle.kind_words.specs.Kinds.{live_kind}
use Rattle.context_words.specs.Names.{naming}
use Rattle.desc_pages.specs.Descriptors.{descriptor_refusal, frame_at, index_at}
use Rattle.desc_pages.specs.Gdt.{gdt_refusal, page_at}
use Rattle.desc_pages.specs.Ldt.{ldt_base, ldt_refusal}
use Rattle.table_law.specs.Alone.{alone, fine, take_kind, take_reference}
use Rattle.table_law.specs.Exchange.{with_cell}
use Rattle.table_law.specs.Levels.{closed}
use Rattle.table_law.specs.Plain.{Plain, with_kind}
use Rattle.table_law.specs.Release.{drop_kind, let_go}
use Rattle.script_law.specs.Frames.{rename, write_memory}
use Rattle.script_law.specs.Repeats.{each_below, first_of}
use Rattle.script_law.specs.Values.{Solo, Numbers, Outcome, allowed, behind, did, looked, or_back, stopped, then_do, with_frames, with_own}

-- ---- whole frames
abbrev pub with_page : ℕ → (ℕ → ℕ) → Plain → Plain
with_page f words p = record { shares = p.shares; kinds = p.kinds; cells = λ g i. if g == f then words i else p.cells g i }

-- the frame is to be ordinary memory, as for one word
abbrev pub clear_frame : Machine → ℕ → ℕ → Solo → Outcome
clear_frame n d f s = behind s (alone n d 0 f s.frames) (λ s. did (with_frames (let_go 0 f (with_page f (λ i. 0) s.frames)) s))

-- the source may be of any type
abbrev pub copy_frame : Machine → ℕ → ℕ → ℕ → Solo → Outcome
copy_frame n d to from s =
    behind s (alone n d 0 to s.frames)
    (λ s. or_back (looked n d from s (λ s. did (with_frames (let_go 0 to (with_page to (s.frames.cells from) s.frames)) s))) (let_go 0 to))

-- ---- descriptor pages
-- the words below that number in their fixed forms
abbrev pub fixed_or : ℕ → Option ℕ → ℕ
fixed_or w None = w
fixed_or w (Some x) = x

abbrev pub with_fixed : ℕ → ℕ → Plain → Plain
with_fixed f k p = record { shares = p.shares; kinds = p.kinds; cells = λ g i. if (g == f) && nat_lt i k then fixed_or (p.cells g i) (fixed (p.cells g i)) else p.cells g i }

-- All words of a dead frame are fixed, and it is live; or one has no fixed form: those before it stay fixed, and the frame is dead again, with its type.
abbrev pub filled_page : ℕ → Solo → Option ℕ → Outcome
filled_page f s None = did (with_frames (with_kind f (live_kind kinds.Desc 1) (with_fixed f 512 s.frames)) s)
filled_page f s (Some i) = stopped (Numbers (BadDescriptor f i (s.frames.cells f i))) (with_frames (closed f kinds.Desc (with_fixed f i s.frames)) s)

-- behind its reference: a live descriptor page is counted once more, and a frame of another type refused
abbrev pub take_page : ℕ → Solo → KindWord → Outcome
take_page f s k =
    if is_dead k then filled_page f s (first_of 512 0 (λ i. is_none (fixed (s.frames.cells f i))))
    else behind s (take_kind fine f kinds.Desc s.frames k) did

abbrev pub get_page : Machine → ℕ → ℕ → Solo → Outcome
get_page n d f s = behind s (take_reference n d f s.frames) (λ s. take_page f s (s.frames.kinds f))

-- a type count and its reference are given back
abbrev pub give_page : ℕ → Plain → Plain
give_page f p = drop_kind (λ k q. q) f kinds.Desc p (p.kinds f)

-- ---- the GDT: all pages are taken first, or none; then each of its 14 words gets another page or none, and what it named before is given back
unfoldable pub get_pages : Machine → ℕ → List ℕ → Solo → Outcome
get_pages n d [] s = did s
get_pages n d (f ∷ fs) s = then_do (get_page n d f s) (λ s. or_back (get_pages n d fs s) (give_page f))

abbrev pub set_gdt : Machine → ℕ → ℕ → List ℕ → Solo → Outcome
set_gdt n d entries fs s =
    allowed (gdt_refusal entries fs) s (then_do (get_pages n d fs s) (λ s. did (each_below 14 (λ k. rename give_page (8 + k) (naming (page_at fs k))) s)))

-- ---- the LDT: its 16 words name none, and what they named is given back; a page is taken where the guest touches it
abbrev pub set_ldt : ℕ → ℕ → Solo → Outcome
set_ldt address entries s =
    allowed (ldt_refusal address entries) s (did (with_own 7 (ldt_write (ldt_base address entries)) (each_below 16 (λ k. rename give_page (22 + k) 0) s)))

-- ---- one descriptor
-- the word is put into a live descriptor page, which stays one
abbrev pub put_descriptor : Machine → ℕ → ℕ → ℕ → ℕ → Solo → Outcome
put_descriptor n d f i word s = then_do (get_page n d f s) (λ s. did (with_frames (give_page f (with_cell f i word s.frames)) s))

-- or into ordinary memory
abbrev pub store_descriptor : Machine → ℕ → ℕ → ℕ → ℕ → Solo → KindWord → Outcome
store_descriptor n d f i word s k = if k.validated && is_type k.kind kinds.Desc then put_descriptor n d f i word s else write_memory n d f i word s

-- in its fixed form
abbrev pub fix_descriptor : Machine → ℕ → ℕ → ℕ → ℕ → Solo → Option ℕ → Outcome
fix_descriptor n d f i word s None = stopped (Numbers (BadDescriptor f i word)) s
fix_descriptor n d f i word s (Some x) = store_descriptor n d f i x s (s.frames.kinds f)

abbrev pub set_descriptor : Machine → ℕ → ℕ → ℕ → Solo → Outcome
set_descriptor n d address word s =
    allowed (descriptor_refusal address) s (looked n d (frame_at address) s (λ s. fix_descriptor n d (frame_at address) (index_at address) word s (fixed word)))
