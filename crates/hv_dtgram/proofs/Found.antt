-- What a reader of entries answers.
use Rattle.std.proofs.Common.{◌≡◌, ℕ, List}
use Rattle.std.specs.Prelude.{None, map}
use Rattle.hv_dtlex.specs.declared.token.Token.{Token}
use Rattle.hv_dtlex.specs.declared.token.Mode.TheVariants.{Name}
use Rattle.hv_dtgram.specs.declared.contents.Entry.{Entry}
use Rattle.hv_dtgram.specs.Lexed.{Lexes, IsSourceText}
use Rattle.hv_dtgram.specs.Contents.{piece_of, source_pieces, entries_of}
use Rattle.hv_dtgram.specs.Contents.{HasEntries}
use Rattle.hv_dtgram.proofs.Lifting.{written_of}

pub has_entries : (text : List ℕ) (tokens : List Token) (found : List Entry) → IsSourceText text tokens → ((tokens : List Token) (entries : List Entry) → Lexes text 0 Name tokens None → map (piece_of text) tokens ≡ source_pieces entries → found ≡ entries) → HasEntries text found
has_entries text tokens found is only =
    let it = written_of text tokens is in
    record {
      syntax = it.syntax;
      written = record { tokens = tokens; lexes = is.lexes; pieces = it.pieces; names = it.names };
      is = only tokens (entries_of it.syntax) is.lexes it.pieces;
    }
