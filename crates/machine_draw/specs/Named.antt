-- Which frames are named by a recorded entry of a page table, or by a word of a vCPU.
use Rattle.std.specs.Prelude.{ℕ, ◌||◌, Bool, false, List, length, map, Option, Some, None}
use Rattle.std.specs.List.{list_any, range_with_len}
use Rattle.xp_words.specs.declared.kind.KindWord.{KindWord}
use Rattle.xp_words.specs.declared.place.Place.TheVariants.{Cell, Kind, Vcpu}
use Rattle.xp_words.specs.KindWords.{kind_read}
use Rattle.report_text.specs.Memories.{Memory, word}
use Rattle.word_readers.specs.Recorded.{recorded_entries}
use Rattle.machine_draw.specs.Targets.{entry_target, context_target, is_frame}

-- whether one of the first n entries of a table names the frame
unfoldable pub entries_name : Memory → ℕ → KindWord → ℕ → ℕ → Bool
entries_name m t k n f = list_any (λ i. is_frame f (entry_target k.kind i (word m (Cell t i)))) (range_with_len 0 n)

abbrev pub table_names_by : Memory → ℕ → ℕ → Option KindWord → Bool
table_names_by m t f None = false
table_names_by m t f (Some k) = entries_name m t k (recorded_entries k) f

-- whether a recorded entry of that frame names this one
unfoldable pub table_names : Memory → ℕ → ℕ → Bool
table_names m t f = table_names_by m t f (kind_read (word m (Kind t)))

-- whether one of the first tables does
unfoldable pub tables_name : Memory → ℕ → ℕ → Bool
tables_name m n f = list_any (λ t. table_names m t f) (range_with_len 0 n)

-- whether one of the first n words of a vCPU does
unfoldable pub words_name : Memory → ℕ → ℕ → ℕ → Bool
words_name m v n f = list_any (λ k. is_frame f (context_target k (word m (Vcpu v k)))) (range_with_len 0 n)

-- whether one of the first vCPUs does
unfoldable pub vcpus_name : Memory → ℕ → ℕ → Bool
vcpus_name m n f = list_any (λ v. words_name m v 38 f) (range_with_len 0 n)

abbrev pub is_named_frame : Memory → ℕ → Bool
is_named_frame m f = tables_name m m.machine.frames f || vcpus_name m (length m.machine.vcpu_domain) f

-- of each frame, whether anything names it
abbrev pub named_frames : Memory → List Bool
named_frames m = map (is_named_frame m) (range_with_len 0 m.machine.frames)
