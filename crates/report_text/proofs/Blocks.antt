-- The text of one more vCPU, domain or frame.
use Rattle.std.proofs.Common.{◌≡◌, ℕ, ◌+◌, List, [], ◌++◌, refl, ◌∙◌, append-nil, add-zero, true, false}
use Rattle.std.specs.Prelude.{slice_index, slice_index_or}
use Rattle.xp_words.specs.declared.reply.LogLine.{LogLine}
use Rattle.xp_words.specs.declared.place.Place.TheVariants.{Refs, Kind, M2p}
use Rattle.report_text.specs.Memories.{Memory, word}
use Rattle.report_text.specs.ReportOf.{vcpu_text, vcpu_texts, domain_line, domain_lines, is_free_word, frame_by, frame_text, frame_texts, free_frames}
use Rattle.report_text.proofs.Ranges.{texts_more, count_more}

pub no_vcpus : (m : Memory) (logs : List (List LogLine)) (pending : List ℕ) → vcpu_texts m logs pending 0 ≡ []
unfolding vcpu_texts
no_vcpus m logs pending = refl

pub vcpus_more : (m : Memory) (logs : List (List LogLine)) (pending : List ℕ) (v : ℕ) → vcpu_texts m logs pending (v + 1) ≡ vcpu_texts m logs pending v ++ vcpu_text m (slice_index_or logs v []) (slice_index pending v) v
unfolding vcpu_texts
vcpus_more m logs pending v = texts_more (λ (k : ℕ). vcpu_text m (slice_index_or logs k []) (slice_index pending k) k) v

pub no_domains : (m : Memory) → domain_lines m 0 ≡ []
unfolding domain_lines
no_domains m = refl

pub domains_more : (m : Memory) (d : ℕ) → domain_lines m (d + 1) ≡ domain_lines m d ++ domain_line m d
unfolding domain_lines
domains_more m d = texts_more (domain_line m) d

pub no_frames : (m : Memory) → frame_texts m 0 ≡ []
unfolding frame_texts
no_frames m = refl

pub free_frame : (m : Memory) (f refs : ℕ) → refs ≡ word m (Refs f) → is_free_word refs ≡ true → frame_texts m (f + 1) ≡ frame_texts m f
unfolding frame_texts frame_text
free_frame m f refs found free =
    let here : is_free_word (word m (Refs f)) ≡ true = cc in
    texts_more (frame_text m) f ∙ rw (here, append-nil) refl

pub held_frame : (m : Memory) (f refs kind m2p : ℕ) → refs ≡ word m (Refs f) → kind ≡ word m (Kind f) → m2p ≡ word m (M2p f) → is_free_word refs ≡ false → frame_texts m (f + 1) ≡ frame_texts m f ++ frame_by f refs kind m2p
unfolding frame_texts frame_text
held_frame m f refs kind m2p found as_kind as_m2p held =
    let here : is_free_word (word m (Refs f)) ≡ false = cc in
    texts_more (frame_text m) f ∙ rw (here, found, as_kind, as_m2p) refl

pub none_free : (m : Memory) → free_frames m 0 ≡ 0
unfolding free_frames
none_free m = refl

pub one_free : (m : Memory) (f refs : ℕ) → refs ≡ word m (Refs f) → is_free_word refs ≡ true → free_frames m (f + 1) ≡ free_frames m f + 1
unfolding free_frames
one_free m f refs found free =
    let here : is_free_word (word m (Refs f)) ≡ true = cc in
    count_more (λ (k : ℕ). is_free_word (word m (Refs k))) f ∙ rw here refl

pub one_held : (m : Memory) (f refs : ℕ) → refs ≡ word m (Refs f) → is_free_word refs ≡ false → free_frames m (f + 1) ≡ free_frames m f
unfolding free_frames
one_held m f refs found held =
    let here : is_free_word (word m (Refs f)) ≡ false = cc in
    count_more (λ (k : ℕ). is_free_word (word m (Refs k))) f ∙ rw here (add-zero _)

-- a text behind a, first x and then y
pub none_yet : (a z : List ℕ) → z ≡ [] → a ≡ a ++ z
none_yet a z none = rw (none, append-nil) refl
