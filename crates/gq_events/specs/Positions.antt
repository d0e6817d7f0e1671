-- What the characters of a session's positions are counted in (LSP 3.17, "PositionEncodingKind").
use Rattle.std.specs.Prelude.{unwrap_or}
use Rattle.gq_text.specs.declared.place.PositionEncoding.{PositionEncoding}
use Rattle.gq_text.specs.declared.place.PositionEncoding.TheVariants.{Utf16}
use Rattle.gq_rpc.specs.declared.messages.ClientCapabilities.{ClientCapabilities}

-- the one that every client knows
abbrev pub default_encoding : PositionEncoding
default_encoding = Utf16

-- the client's choice, where it lists those that it knows
abbrev pub encoding_for : ClientCapabilities → PositionEncoding
encoding_for client = unwrap_or client.position_encoding default_encoding
