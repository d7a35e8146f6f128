-- What is named by one more entry, table, word or vCPU.
use Rattle.std.proofs.Common.{◌≡◌, ℕ, ◌+◌, ◌||◌, ◌<◌, Bool, false, List, [], ◌∷◌, ◌++◌, length, take, get_or, map, refl, sym, ap, ◌∙◌}
use Rattle.std.specs.List.{list_any, range_with_len}
use Rattle.std.proofs.Math.Bool.{or_assoc, or-false}
use Rattle.std.proofs.lemmas.List.Folds.{list_any-append}
use Rattle.std.proofs.lemmas.List.FromFn.{fill_by_all}
use Rattle.std.proofs.Math.Seq.{take-append_seam}
use Rattle.xp_words.specs.declared.kind.KindWord.{KindWord}
use Rattle.xp_words.specs.declared.place.Place.TheVariants.{Cell, Vcpu}
use Rattle.report_text.specs.Memories.{Memory, word}
use Rattle.report_text.proofs.Ranges.{range_more}
use Rattle.machine_draw.specs.Named.{entries_name, table_names, tables_name, words_name, vcpus_name}
use Rattle.machine_draw.specs.Targets.{entry_target, context_target, is_frame}

any_more : (p : ℕ → Bool) (n : ℕ) → list_any p (range_with_len 0 (n + 1)) ≡ (list_any p (range_with_len 0 n) || p n)
any_more p n =
    ap (list_any p) (range_more n) ∙ list_any-append p (range_with_len 0 n) (n ∷ []) ∙ ap (λ (b : Bool). list_any p (range_with_len 0 n) || b) (or-false (p n))

pub entries_more : (m : Memory) (t : ℕ) (k : KindWord) (n f : ℕ) → entries_name m t k (n + 1) f ≡ (entries_name m t k n f || is_frame f (entry_target k.kind n (word m (Cell t n))))
unfolding entries_name
entries_more m t k n f = any_more (λ i. is_frame f (entry_target k.kind i (word m (Cell t i)))) n

pub no_entries : (m : Memory) (t : ℕ) (k : KindWord) (f : ℕ) → entries_name m t k 0 f ≡ false
unfolding entries_name
no_entries m t k f = refl

pub tables_more : (m : Memory) (n f : ℕ) → tables_name m (n + 1) f ≡ (tables_name m n f || table_names m n f)
unfolding tables_name
tables_more m n f = any_more (λ t. table_names m t f) n

pub no_tables : (m : Memory) (f : ℕ) → tables_name m 0 f ≡ false
unfolding tables_name
no_tables m f = refl

pub words_more : (m : Memory) (v n f : ℕ) → words_name m v (n + 1) f ≡ (words_name m v n f || is_frame f (context_target n (word m (Vcpu v n))))
unfolding words_name
words_more m v n f = any_more (λ k. is_frame f (context_target k (word m (Vcpu v k)))) n

pub no_words : (m : Memory) (v f : ℕ) → words_name m v 0 f ≡ false
unfolding words_name
no_words m v f = refl

pub vcpus_more : (m : Memory) (n f : ℕ) → vcpus_name m (n + 1) f ≡ (vcpus_name m n f || words_name m n 38 f)
unfolding vcpus_name
vcpus_more m n f = any_more (λ v. words_name m v 38 f) n

pub no_vcpus : (m : Memory) (f : ℕ) → vcpus_name m 0 f ≡ false
unfolding vcpus_name
no_vcpus m f = refl

-- a mark a, first x and then y
pub marked : (a b c x y z : Bool) → b ≡ (a || x) → c ≡ (b || y) → z ≡ (x || y) → c ≡ (a || z)
marked a b c x y z first then both = then ∙ ap (λ (k : Bool). k || y) first ∙ or_assoc a x y ∙ ap (λ (k : Bool). a || k) (sym both)

pub unmarked : (a z : Bool) → z ≡ false → a ≡ (a || z)
unmarked a z none = rw none (sym (or-false a))

-- what is written to a whole list stands in its place
pub written_back : (n : ℕ) (a b : List Bool) → n ≡ length a → take n (a ++ b) ≡ a
written_back n a b e = rw e (take-append_seam a b)

-- marks that were all off
pub all_marked : (p : ℕ → Bool) (a b : List Bool) (n : ℕ) → length b ≡ n → ((k : ℕ) → k < n → get_or a k false ≡ false) → ((k : ℕ) → k < n → get_or b k false ≡ (get_or a k false || p k)) → b ≡ map p (range_with_len 0 n)
all_marked p a b n full off marks = fill_by_all p b n false full (λ k low. marks k low ∙ rw (off k low) refl)
