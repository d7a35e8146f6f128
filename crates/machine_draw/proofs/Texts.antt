-- The text of one more entry, frame, word, vCPU or domain.
use Rattle.std.proofs.Common.{◌≡◌, ℕ, ◌+◌, List, [], ◌∷◌, ◌++◌, refl, sym, ap, ◌∙◌, append-nil, Option, Some, None, option_to_list}
use Rattle.std.specs.List.{flat_map, range_with_len}
use Rattle.std.proofs.lemmas.Grind.{flat_map-append}
use Rattle.report_text.specs.Memories.{Memory}
use Rattle.report_text.proofs.Ranges.{range_more, texts_more}
use Rattle.machine_draw.specs.declared.tables.Run.{Run}
use Rattle.machine_draw.specs.declared.tables.Table.{Table}
use Rattle.machine_draw.specs.Pictures.{Picture}
use Rattle.machine_draw.specs.Drawing.{cluster_text, cluster_texts}
use Rattle.machine_draw.specs.Frames.{frame_part, frame_parts}
use Rattle.machine_draw.specs.Tables.{run_at, entry_runs, target_edge, target_edges, table_edges, all_edges}
use Rattle.machine_draw.specs.Vcpus.{vcpu_part, vcpu_parts, word_edge, word_edges, vcpu_edges}

pub no_runs : (m : Memory) (t : Table) → entry_runs m t 0 ≡ []
unfolding entry_runs
no_runs m t = refl

pub runs_more : (m : Memory) (t : Table) (n : ℕ) → entry_runs m t (n + 1) ≡ entry_runs m t n ++ option_to_list (run_at m t n)
unfolding entry_runs
runs_more m t n =
    let f : ℕ → List Run = (λ i. option_to_list (run_at m t i)) in
    ap (flat_map f) (range_more n) ∙ flat_map-append f (range_with_len 0 n) (n ∷ []) ∙ ap (λ l. flat_map f (range_with_len 0 n) ++ l) (append-nil (f n))

pub one_more : (a b runs more : List Run) (here : Option Run) (r : Run) → b ≡ a ++ r ∷ [] → a ≡ runs → Some r ≡ here → more ≡ runs ++ option_to_list here → b ≡ more
one_more a b runs more here r pushed before found all =
    pushed ∙ ap (λ l. l ++ r ∷ []) before ∙ ap (λ o. runs ++ option_to_list o) found ∙ sym all

pub none_more : (a runs more : List Run) (here : Option Run) → a ≡ runs → None ≡ here → more ≡ runs ++ option_to_list here → a ≡ more
none_more a runs more here before found all =
    before ∙ sym (append-nil runs) ∙ ap (λ o. runs ++ option_to_list o) found ∙ sym all

pub no_targets : (table : ℕ) (runs : List Run) → target_edges table runs 0 ≡ []
unfolding target_edges
no_targets table runs = refl

pub targets_more : (table : ℕ) (runs : List Run) (n : ℕ) → target_edges table runs (n + 1) ≡ target_edges table runs n ++ target_edge table runs n
unfolding target_edges
targets_more table runs n = texts_more (target_edge table runs) n

pub no_tables : (m : Memory) → all_edges m 0 ≡ []
unfolding all_edges
no_tables m = refl

pub tables_more : (m : Memory) (n : ℕ) → all_edges m (n + 1) ≡ all_edges m n ++ table_edges m n
unfolding all_edges
tables_more m n = texts_more (table_edges m) n

pub no_frames : (p : Picture) (c : ℕ) → frame_parts p c 0 ≡ []
unfolding frame_parts
no_frames p c = refl

pub frames_more : (p : Picture) (c n : ℕ) → frame_parts p c (n + 1) ≡ frame_parts p c n ++ frame_part p c n
unfolding frame_parts
frames_more p c n = texts_more (frame_part p c) n

pub no_vcpus : (p : Picture) (d : ℕ) → vcpu_parts p d 0 ≡ []
unfolding vcpu_parts
no_vcpus p d = refl

pub vcpus_more : (p : Picture) (d n : ℕ) → vcpu_parts p d (n + 1) ≡ vcpu_parts p d n ++ vcpu_part p d n
unfolding vcpu_parts
vcpus_more p d n = texts_more (vcpu_part p d) n

pub no_words : (m : Memory) (v : ℕ) → word_edges m v 0 ≡ []
unfolding word_edges
no_words m v = refl

pub words_more : (m : Memory) (v n : ℕ) → word_edges m v (n + 1) ≡ word_edges m v n ++ word_edge m v n
unfolding word_edges
words_more m v n = texts_more (word_edge m v) n

pub no_edges : (m : Memory) → vcpu_edges m 0 ≡ []
unfolding vcpu_edges
no_edges m = refl

pub edges_more : (m : Memory) (n : ℕ) → vcpu_edges m (n + 1) ≡ vcpu_edges m n ++ word_edges m n 38
unfolding vcpu_edges
edges_more m n = texts_more (λ v. word_edges m v 38) n

pub no_clusters : (p : Picture) → cluster_texts p 0 ≡ []
unfolding cluster_texts
no_clusters p = refl

pub clusters_more : (p : Picture) (n : ℕ) → cluster_texts p (n + 1) ≡ cluster_texts p n ++ cluster_text p n
unfolding cluster_texts
clusters_more p n = texts_more (cluster_text p) n
