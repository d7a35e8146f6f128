-- Frames, drawn: each by itself that a type, a name or the verdict tells apart, and the others in runs.
use Rattle.std.specs.Prelude.{ℕ, ◌-◌, ◌==◌, ◌&&◌, ◌||◌, not, nat_lt, min, if◌then◌else◌, Bool, true, false, List, [], ◌++◌, length, slice_index_or, Option, Some, None, codes, decimal}
use Rattle.std.specs.List.{flat_map, range_with_len}
use Rattle.xp_words.specs.declared.kind.KindWord.{KindWord}
use Rattle.xp_words.specs.declared.refs.RefWord.{RefWord}
use Rattle.xp_words.specs.declared.refs.RefWord.TheVariants.{Free, Owned, Dying}
use Rattle.xp_words.specs.declared.place.Place.TheVariants.{Refs, Kind}
use Rattle.xp_words.specs.KindWords.{kind_read}
use Rattle.xp_words.specs.PageTypes.{type_number}
use Rattle.xp_words.specs.RefWords.{ref_read}
use Rattle.report_text.specs.Memories.{word}
use Rattle.report_text.specs.ReportOf.{holder_text, form_text}
use Rattle.machine_draw.specs.Pictures.{Picture, blames_frame}
use Rattle.machine_draw.specs.Runs.{is_first, run_end, range_text}

abbrev pub domains_of : Picture → ℕ
domains_of p = length p.memory.machine.page_limit

-- the cluster of a frame with that owner: the owner's; the number of domains stands for no cluster
abbrev pub cluster_by : ℕ → Option RefWord → ℕ
cluster_by domains None = domains
cluster_by domains (Some (Free stamp)) = domains
cluster_by domains (Some (Owned owner allocated count)) = min owner domains
cluster_by domains (Some (Dying owner)) = min owner domains

unfoldable pub cluster_of_word : ℕ → ℕ → ℕ
cluster_of_word domains w = cluster_by domains (ref_read w)

abbrev pub cluster_of : Picture → ℕ → ℕ
cluster_of p f = cluster_of_word (domains_of p) (word p.memory (Refs f))

-- free, or a domain's of the machine
abbrev pub is_plain_holder : ℕ → Option RefWord → Bool
is_plain_holder domains None = false
is_plain_holder domains (Some (Free stamp)) = true
is_plain_holder domains (Some (Owned owner allocated count)) = nat_lt owner domains
is_plain_holder domains (Some (Dying owner)) = false

-- neither in work nor partial, and live as ordinary memory alone
abbrev pub is_plain_form : Option KindWord → Bool
is_plain_form None = false
is_plain_form (Some k) = not (k.partial || k.locked || (k.validated && not (type_number k.kind == 7)))

unfoldable pub is_plain : ℕ → ℕ → ℕ → Bool
is_plain domains refs kind = is_plain_holder domains (ref_read refs) && is_plain_form (kind_read kind)

-- whether a frame is drawn by itself: something names it, the verdict does, or it is not plain
unfoldable pub is_drawn_alone : Picture → ℕ → Bool
is_drawn_alone p f =
    slice_index_or p.named f false || blames_frame p.verdict f || not (is_plain (domains_of p) (word p.memory (Refs f)) (word p.memory (Kind f)))

-- whether it is drawn in a run of that cluster
unfoldable pub is_in_run : Picture → ℕ → ℕ → Bool
is_in_run p c f = (cluster_of p f == c) && not (is_drawn_alone p f)

abbrev pub red_text : Bool → List ℕ
red_text red = if red then codes ",color=red" else []

abbrev pub slots_by : Option KindWord → List ℕ
slots_by None = []
slots_by (Some k) = if type_number k.kind == 4 then codes "\\nslots 256-271 are Xen's" else []

-- that the hypervisor's slots of a top table are not drawn
unfoldable pub slots_text : ℕ → List ℕ
slots_text w = slots_by (kind_read w)

-- a frame by itself
unfoldable pub node_text : ℕ → ℕ → ℕ → Bool → List ℕ
node_text f refs kind red =
    codes "frame" ++ (decimal f ++ (codes " [label=\"frame " ++ (decimal f ++ (codes "\\n" ++ (holder_text refs ++ (codes "\\n" ++ (form_text kind ++ (slots_text kind ++ (codes "\"" ++ (red_text red ++ codes "];\n"))))))))))

abbrev pub run_title : Bool → List ℕ
run_title free = if free then codes "free" else codes "frames"

-- a run of frames
unfoldable pub frames_text : ℕ → ℕ → Bool → List ℕ
frames_text first last free =
    codes "frames" ++ (decimal first ++ (codes "to" ++ (decimal last ++ (codes " [label=\"" ++ (run_title free ++ (codes " " ++ (range_text first last ++ codes "\"];\n")))))))

abbrev pub own_node : Picture → ℕ → List ℕ
own_node p f = node_text f (word p.memory (Refs f)) (word p.memory (Kind f)) (blames_frame p.verdict f)

-- the run that begins at frame f
unfoldable pub run_node : Picture → ℕ → ℕ → List ℕ
run_node p c f =
    if is_first (is_in_run p c) f then frames_text f (run_end (is_in_run p c) f p.memory.machine.frames - 1) (c == domains_of p) else []

-- what is drawn at frame f of that cluster
unfoldable pub frame_part : Picture → ℕ → ℕ → List ℕ
frame_part p c f =
    if cluster_of p f == c then (if is_drawn_alone p f then own_node p f else run_node p c f) else []

-- the first frames of that cluster
unfoldable pub frame_parts : Picture → ℕ → ℕ → List ℕ
frame_parts p c n = flat_map (frame_part p c) (range_with_len 0 n)
