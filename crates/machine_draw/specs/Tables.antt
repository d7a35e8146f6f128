-- The entries of page tables, drawn: from a table one edge to each frame that a recorded entry names. Runs are neighbouring entries with the same frame
-- and right; an edge is labelled with all that lead to its frame.
use Rattle.std.specs.Prelude.{ℕ, ◌+◌, ◌-◌, ◌==◌, ◌&&◌, not, if◌then◌else◌, Bool, true, false, List, [], ◌++◌, length, take, drop, slice_index_or, Option, Some, None, option_to_list, codes, decimal}
use Rattle.std.specs.List.{flat_map, list_any, range_with_len}
use Rattle.xp_words.specs.declared.kind.KindWord.{KindWord}
use Rattle.xp_words.specs.declared.place.Place.TheVariants.{Cell, Kind}
use Rattle.xp_words.specs.Entries.{is_bit}
use Rattle.xp_words.specs.KindWords.{kind_read}
use Rattle.report_text.specs.Memories.{Memory, word}
use Rattle.word_readers.specs.Recorded.{recorded_entries}
use Rattle.machine_draw.specs.declared.tables.Run.{Run}
use Rattle.machine_draw.specs.declared.tables.Table.{Table}
use Rattle.machine_draw.specs.Runs.{is_first, run_end, range_text}
use Rattle.machine_draw.specs.Targets.{entry_target, is_frame}

-- whether the entry may be written through, where that is asked for, or may not
abbrev pub is_right : Bool → ℕ → Bool
is_right true w = is_bit 1 w
is_right false w = not (is_bit 1 w)

-- whether entry i names that frame with that right
unfoldable pub leads : Memory → Table → ℕ → Bool → ℕ → Bool
leads m t f writable i =
    is_frame f (entry_target t.kind i (word m (Cell t.frame i))) && is_right writable (word m (Cell t.frame i))

abbrev pub right_text : Bool → List ℕ
right_text writable = if writable then codes "W" else codes "R"

-- the run of entries with that frame and right that begins at entry i
unfoldable pub run_from : Memory → Table → ℕ → Bool → ℕ → Option Run
run_from m t f writable i =
    if is_first (leads m t f writable) i
    then Some (record { first = i; last = run_end (leads m t f writable) i t.recorded - 1; frame = f; writable = writable })
    else None

abbrev pub run_to : Memory → Table → ℕ → Option ℕ → Option Run
run_to m t i None = None
run_to m t i (Some f) = run_from m t f (is_bit 1 (word m (Cell t.frame i))) i

-- the run that begins at entry i
unfoldable pub run_at : Memory → Table → ℕ → Option Run
run_at m t i = run_to m t i (entry_target t.kind i (word m (Cell t.frame i)))

-- those of the first entries
unfoldable pub entry_runs : Memory → Table → ℕ → List Run
entry_runs m t n = flat_map (λ i. option_to_list (run_at m t i)) (range_with_len 0 n)

unfoldable pub run_text : Run → List ℕ
run_text r = range_text r.first r.last ++ (codes " " ++ right_text r.writable)

abbrev pub is_to : ℕ → Run → Bool
is_to f r = r.frame == f

-- a run among others to that frame
unfoldable pub other_text : ℕ → Run → List ℕ
other_text f r = if is_to f r then codes ", " ++ run_text r else []

unfoldable pub others_text : ℕ → List Run → List ℕ
others_text f runs = flat_map (other_text f) runs

-- the edge to the frame of a run, with the runs behind it that name the same
unfoldable pub edge_text : ℕ → Run → List Run → List ℕ
edge_text table r behind =
    codes "frame" ++ (decimal table ++ (codes " -> frame" ++ (decimal r.frame ++ (codes " [label=\"" ++ (run_text r ++ (others_text r.frame behind ++ codes "\"];\n"))))))

abbrev pub nth_run : List Run → ℕ → Run
nth_run runs k = slice_index_or runs k (record { first = 0; last = 0; frame = 0; writable = false })

-- the edge that is drawn at run k, where no run before it has the same frame
unfoldable pub target_edge : ℕ → List Run → ℕ → List ℕ
target_edge table runs k =
    if list_any (is_to (nth_run runs k).frame) (take k runs) then [] else edge_text table (nth_run runs k) (drop (k + 1) runs)

-- one edge for each frame that the runs have, drawn at the first n of them
unfoldable pub target_edges : ℕ → List Run → ℕ → List ℕ
target_edges table runs n = flat_map (target_edge table runs) (range_with_len 0 n)

-- the edges of a table
unfoldable pub edges_of : Memory → Table → List ℕ
edges_of m t = target_edges t.frame (entry_runs m t t.recorded) (length (entry_runs m t t.recorded))

abbrev pub table_edges_by : Memory → ℕ → Option KindWord → List ℕ
table_edges_by m f None = []
table_edges_by m f (Some k) = edges_of m (record { frame = f; kind = k.kind; recorded = recorded_entries k })

-- the edges of a frame's recorded entries
unfoldable pub table_edges : Memory → ℕ → List ℕ
table_edges m f = table_edges_by m f (kind_read (word m (Kind f)))

-- the edges of the first frames
unfoldable pub all_edges : Memory → ℕ → List ℕ
all_edges m n = flat_map (table_edges m) (range_with_len 0 n)
