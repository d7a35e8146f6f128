use Rattle.std.proofs.Common.{◌≡◌, ◌+◌, ◌/◌, sym, arith, length}
use Rattle.sparse_words.specs.Kept.{used}
use Rattle.sparse_words.proofs.Blocks.{block_added, word_added, used_lt, lengthened}
use Rattle.sparse_words.proofs.add_block.Goals as goal

pub overflow_cast-used : goal.overflow_cast-used
overflow_cast-used c =
    let some = used_lt c.args.chunks.now.items c.args.chunk (omega (arith, c.args.chunks.now.ok.0)) c.requires.none in
    let whole = c.requires.kept.whole in
    omega (arith, c.args.chunks.now.ok.0, c.args.store.now.ok.0)

pub returns-clause-kept : goal.returns-clause-kept
returns-clause-kept c =
    let chunks = c.args.chunks.now.items in
    let store = c.args.store.now.items in
    let count : length store ≡ c.len-used.result = omega (arith, c.args.store.now.ok.0) in
    let some = used_lt chunks c.args.chunk (omega (arith, c.args.chunks.now.ok.0)) c.requires.none in
    let whole = c.requires.kept.whole in
    let room = c.requires.kept.room in
    let grown = lengthened store c.resize-room.new.self.items c.len-used.result 32 c.args.word _ count (c.resize-room.ensures.succeeds (omega arith)) (rw (sym c.len-used.ensures) at c.resize-room.ensures.items) in
    let number : c.len-used.result / 32 ≡ used chunks + 1 = omega arith in
    rw (number, grown) (block_added chunks store _ c.requires.kept c.args.chunk (omega (arith, c.args.chunks.now.ok.0)) c.requires.none c.args.word _ c.resize-room.ensures.capacity)

pub returns-clause-words : goal.returns-clause-words
returns-clause-words c = λ d i l.
    let chunks = c.args.chunks.now.items in
    let store = c.args.store.now.items in
    let count : length store ≡ c.len-used.result = omega (arith, c.args.store.now.ok.0) in
    let some = used_lt chunks c.args.chunk (omega (arith, c.args.chunks.now.ok.0)) c.requires.none in
    let whole = c.requires.kept.whole in
    let room = c.requires.kept.room in
    let grown = lengthened store c.resize-room.new.self.items c.len-used.result 32 c.args.word _ count (c.resize-room.ensures.succeeds (omega arith)) (rw (sym c.len-used.ensures) at c.resize-room.ensures.items) in
    let number : c.len-used.result / 32 ≡ used chunks + 1 = omega arith in
    rw (number, grown) (word_added chunks store _ c.requires.kept c.args.chunk (omega (arith, c.args.chunks.now.ok.0)) c.requires.none c.args.word d i l)
