-- The four parts of the key are the bytes of the four words.
use Rattle.std.proofs.Common.{◌≡◌, ◌+◌, refl, rules}
use Rattle.sg_streams.specs.Streams.{word_of}
use Rattle.sg_streams.proofs.opening_keys.next_key.Goals as goal

pub returns-clause-key : goal.returns-clause-key
returns-clause-key c =
    let words = c.args.words.now in
    let w0 : c.next.result ≡ word_of words.seed words.stream words.place = search rules in
    let w1 : c.next-2.result ≡ word_of words.seed words.stream (words.place + 1) = search rules in
    let w2 : c.next-3.result ≡ word_of words.seed words.stream (words.place + 2) = search rules in
    let w3 : c.next-4.result ≡ word_of words.seed words.stream (words.place + 3) = search rules in
    rw (← w0, ← w1, ← w2, ← w3)
    (rw (
      c.copy_from_slice-4.ensures.after,
      c.copy_from_slice-3.ensures.after,
      c.copy_from_slice-2.ensures.after,
      c.copy_from_slice.ensures.after,
      c.to_be_bytes.ensures,
      c.to_be_bytes-2.ensures,
      c.to_be_bytes-3.ensures,
      c.to_be_bytes-4.ensures,
    ) refl)
