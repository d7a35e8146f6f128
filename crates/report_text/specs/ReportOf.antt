-- The text of a report, over the words of a machine by name.
use Rattle.std.specs.Prelude.{ℕ, ◌==◌, if◌then◌else◌, Bool, true, false, List, [], ◌++◌, length, slice_index, slice_index_or, count_by, Option, Some, None, codes, decimal}
use Rattle.std.specs.List.{flat_map, range_with_len}
use Rattle.xp_words.specs.declared.kind.KindWord.{KindWord}
use Rattle.xp_words.specs.declared.refs.RefWord.{RefWord}
use Rattle.xp_words.specs.declared.refs.RefWord.TheVariants.{Free, Owned, Dying}
use Rattle.xp_words.specs.declared.reply.LogLine.{LogLine}
use Rattle.xp_words.specs.KindWords.{kind_read}
use Rattle.xp_words.specs.Machine.{Machine}
use Rattle.xp_words.specs.declared.place.Place.TheVariants.{Pages, Life, Refs, Kind, M2p}
use Rattle.xp_words.specs.Places.{base_of, user_base_of, old0_of, old1_of}
use Rattle.xp_words.specs.RefWords.{ref_read}
use Rattle.report_text.specs.LogTexts.{log_lines}
use Rattle.report_text.specs.Memories.{Memory, word}
use Rattle.report_text.specs.WordTexts.{hex, context_text, type_text, printed_type_count, flags_text, life_text, m2p_text}

-- the domain of a vCPU, and the words that name its frames
unfoldable pub vcpu_line : Memory → ℕ → List ℕ
vcpu_line m v =
    codes "vcpu " ++ (decimal v ++ (codes " domain " ++ (decimal (slice_index m.machine.vcpu_domain v) ++ (codes " base " ++ (context_text (word m (base_of v)) ++ (codes " user " ++ (context_text (word m (user_base_of v)) ++ (codes " old " ++ (context_text (word m (old0_of v)) ++ (codes " " ++ (context_text (word m (old1_of v)) ++ codes "\n")))))))))))

-- how many operations are unanswered; nothing where none is
unfoldable pub pending_line : ℕ → List ℕ
pending_line n = if n == 0 then [] else codes "pending " ++ (decimal n ++ codes "\n")

-- what is printed of one vCPU
unfoldable pub vcpu_text : Memory → List LogLine → ℕ → ℕ → List ℕ
vcpu_text m log pending v = vcpu_line m v ++ (log_lines log ++ pending_line pending)

-- what is printed of the first vCPUs
unfoldable pub vcpu_texts : Memory → List (List LogLine) → List ℕ → ℕ → List ℕ
vcpu_texts m logs pending vcpus =
    flat_map (λ v. vcpu_text m (slice_index_or logs v []) (slice_index pending v) v) (range_with_len 0 vcpus)

-- the life of a domain and the number of its pages
unfoldable pub domain_line : Memory → ℕ → List ℕ
domain_line m d =
    codes "domain " ++ (decimal d ++ (codes " " ++ (life_text (word m (Life d)) ++ (codes " pages " ++ (decimal (word m (Pages d)) ++ codes "\n")))))

-- the lines of the first domains
unfoldable pub domain_lines : Memory → ℕ → List ℕ
domain_lines m domains = flat_map (domain_line m) (range_with_len 0 domains)

-- whether a reference word that is read so is that of a free frame
abbrev pub is_free_ref : Option RefWord → Bool
is_free_ref None = false
is_free_ref (Some (Free stamp)) = true
is_free_ref (Some (Owned owner allocated count)) = false
is_free_ref (Some (Dying owner)) = false

-- the same of the word itself
unfoldable pub is_free_word : ℕ → Bool
is_free_word w = is_free_ref (ref_read w)

-- whether one of the references is the owner's own
abbrev pub alloc_text : Bool → List ℕ
alloc_text true = codes "alloc"
alloc_text false = codes "-"

-- the owner and the references in a word that is read so
abbrev pub holder_by : ℕ → Option RefWord → List ℕ
holder_by w None = codes "refs " ++ hex w
holder_by w (Some (Free stamp)) = codes "free"
holder_by w (Some (Owned owner allocated count)) =
    codes "owner " ++ (decimal owner ++ (codes " refs " ++ (decimal count ++ (codes " " ++ alloc_text allocated))))
holder_by w (Some (Dying owner)) = codes "owner " ++ (decimal owner ++ codes " refs 0 -")

-- the same of the word itself
unfoldable pub holder_text : ℕ → List ℕ
holder_text w = holder_by w (ref_read w)

-- the type, the type count, the flags and the progress in a word that is read so
abbrev pub form_by : ℕ → Option KindWord → List ℕ
form_by w None = codes "kind " ++ hex w
form_by w (Some k) =
    codes "type " ++ (type_text k.kind ++ (codes " count " ++ (decimal (printed_type_count k) ++ (codes " flags " ++ (flags_text k ++ (codes " at " ++ decimal k.progress))))))

-- the same of the word itself
unfoldable pub form_text : ℕ → List ℕ
form_text w = form_by w (kind_read w)

-- the line of a frame with these words
unfoldable pub frame_by : ℕ → ℕ → ℕ → ℕ → List ℕ
frame_by f refs kind m2p =
    codes "frame " ++ (decimal f ++ (codes " " ++ (holder_text refs ++ (codes " " ++ (form_text kind ++ (codes " m2p " ++ (m2p_text m2p ++ codes "\n")))))))

-- the line of a frame; a free one has none
unfoldable pub frame_text : Memory → ℕ → List ℕ
frame_text m f = if is_free_word (word m (Refs f)) then [] else frame_by f (word m (Refs f)) (word m (Kind f)) (word m (M2p f))

-- the lines of the first frames
unfoldable pub frame_texts : Memory → ℕ → List ℕ
frame_texts m frames = flat_map (frame_text m) (range_with_len 0 frames)

-- how many of the first frames are free
unfoldable pub free_frames : Memory → ℕ → ℕ
free_frames m frames = count_by (λ f. is_free_word (word m (Refs f))) (range_with_len 0 frames)

-- how many of all frames are free
unfoldable pub free_line : Memory → List ℕ
free_line m = codes "free " ++ (decimal (free_frames m m.machine.frames) ++ codes "\n")

-- the vCPUs with their logs, the domains, the frames that are not free, and how many are free
unfoldable pub text_of : Memory → List (List LogLine) → List ℕ → List ℕ
text_of m logs pending =
    vcpu_texts m logs pending (length m.machine.vcpu_domain)
    ++ (domain_lines m (length m.machine.page_limit)
    ++ (frame_texts m m.machine.frames ++ (free_line m ++ codes "end\n")))

-- the report of a machine with these words, whose vCPUs have these logs and so many unanswered operations
abbrev pub report_of : Machine → List ℕ → List (List LogLine) → List ℕ → List ℕ
report_of m words logs pending = text_of (record { machine = m; words = words }) logs pending
