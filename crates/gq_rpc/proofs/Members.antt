-- Members that are put in front of others, in order.
use Rattle.std.proofs.Common.{◌≡◌, ℕ, List, Bool, true, false, cond, Option, Some, None, option_map, unwrap_or, Less, nat_cmp, codes, refl, ap, ◌∙◌}
use Rattle.std.specs.Cmp.Lexicographic.{slice_cmp}
use Rattle.std.specs.Ordering.{match_ordering}
use Rattle.serde_json.specs.Data.{Data, boolean, string, object, Members, no_members, member, put}
use Rattle.gq_text.specs.declared.place.PositionEncoding.{PositionEncoding}
use Rattle.gq_rpc.specs.Encoding.{member_where, encoding_name, encoding_member, rename_options, code_action_options, capability_members, synchronization}
use Rattle.gq_rpc.specs.declared.messages.ServerCapabilities.{ServerCapabilities}

-- the name stands before the first member's
abbrev pub IsInFront : List ℕ → Members → Type 0
IsInFront k no_members = Unit {0}
IsInFront k (member l e ms) = slice_cmp nat_cmp k l ≡ Less

in_front-where : (flag : Bool) (k l : List ℕ) (e : Data) (ms : Members) → slice_cmp nat_cmp k l ≡ Less → IsInFront k ms → IsInFront k (member_where flag l e ms)
in_front-where true k l e ms first others = first
in_front-where false k l e ms first others = others

put_in_front : (k : List ℕ) (d : Data) (ms : Members) → IsInFront k ms → put k d ms ≡ member k d ms
put_in_front k d no_members h = refl
put_in_front k d (member l e ms) h = ap (λ o. match_ordering o (member k d (member l e ms)) (member l d ms) (member l e (put k d ms))) h

put_where : (flag : Bool) (k : List ℕ) (d e : Data) (ms known : Members) → d ≡ e → ms ≡ known → IsInFront k known → cond flag (put k d ms) ms ≡ member_where flag k e known
put_where true k d e ms known same is h = ap (λ x. put k x ms) same ∙ ap (put k e) is ∙ put_in_front k e known h
put_where false k d e ms known same is h = is

in_front-encoding : (e : Option PositionEncoding) (k : List ℕ) (ms : Members) → slice_cmp nat_cmp k (codes "positionEncoding") ≡ Less → IsInFront k ms → IsInFront k (encoding_member e ms)
in_front-encoding (Some e) k ms first others = first
in_front-encoding None k ms first others = others

put_encoding : (e : Option PositionEncoding) (ms known : Members) → ms ≡ known → IsInFront (codes "positionEncoding") known
    → unwrap_or (option_map (λ x. put (codes "positionEncoding") (string (encoding_name x)) ms) e) ms ≡ encoding_member e known
put_encoding (Some e) ms known is h = ap (put (codes "positionEncoding") (string (encoding_name e))) is ∙ put_in_front (codes "positionEncoding") (string (encoding_name e)) known h
put_encoding None ms known is h = is

abbrev from_sync : Members
from_sync = member (codes "textDocumentSync") synchronization no_members

abbrev from_rename : ServerCapabilities → Members
from_rename c = member_where c.rename_provider (codes "renameProvider") (rename_options c.prepare_provider) from_sync

abbrev from_references : ServerCapabilities → Members
from_references c = member_where c.references_provider (codes "referencesProvider") (boolean true) (from_rename c)

abbrev from_encoding : ServerCapabilities → Members
from_encoding c = encoding_member c.position_encoding (from_references c)

abbrev from_hover : ServerCapabilities → Members
from_hover c = member_where c.hover_provider (codes "hoverProvider") (boolean true) (from_encoding c)

abbrev from_definition : ServerCapabilities → Members
from_definition c = member_where c.definition_provider (codes "definitionProvider") (boolean true) (from_hover c)

before_rename : (k : List ℕ) (c : ServerCapabilities) → slice_cmp nat_cmp k (codes "renameProvider") ≡ Less → IsInFront k from_sync → IsInFront k (from_rename c)
before_rename k c e h = in_front-where c.rename_provider k (codes "renameProvider") (rename_options c.prepare_provider) from_sync e h

before_references : (k : List ℕ) (c : ServerCapabilities) → slice_cmp nat_cmp k (codes "referencesProvider") ≡ Less → IsInFront k (from_rename c) → IsInFront k (from_references c)
before_references k c e h = in_front-where c.references_provider k (codes "referencesProvider") (boolean true) (from_rename c) e h

before_encoding : (k : List ℕ) (c : ServerCapabilities) → slice_cmp nat_cmp k (codes "positionEncoding") ≡ Less → IsInFront k (from_references c) → IsInFront k (from_encoding c)
before_encoding k c e h = in_front-encoding c.position_encoding k (from_references c) e h

before_hover : (k : List ℕ) (c : ServerCapabilities) → slice_cmp nat_cmp k (codes "hoverProvider") ≡ Less → IsInFront k (from_encoding c) → IsInFront k (from_hover c)
before_hover k c e h = in_front-where c.hover_provider k (codes "hoverProvider") (boolean true) (from_encoding c) e h

before_definition : (k : List ℕ) (c : ServerCapabilities) → slice_cmp nat_cmp k (codes "definitionProvider") ≡ Less → IsInFront k (from_hover c) → IsInFront k (from_definition c)
before_definition k c e h = in_front-where c.definition_provider k (codes "definitionProvider") (boolean true) (from_hover c) e h

-- the capabilities, put one after another from the last
pub capability_members-from_puts : (c : ServerCapabilities) (none m0 m1 m2 m3 m4 m5 m6 m7 : Members) (sync rename references hover definition completion actions : Data)
    → none ≡ no_members → m0 ≡ put (codes "textDocumentSync") sync none → sync ≡ synchronization
    → m1 ≡ cond c.rename_provider (put (codes "renameProvider") rename m0) m0 → rename ≡ rename_options c.prepare_provider
    → m2 ≡ cond c.references_provider (put (codes "referencesProvider") references m1) m1 → references ≡ boolean true
    → m3 ≡ unwrap_or (option_map (λ e. put (codes "positionEncoding") (string (encoding_name e)) m2) c.position_encoding) m2
    → m4 ≡ cond c.hover_provider (put (codes "hoverProvider") hover m3) m3 → hover ≡ boolean true
    → m5 ≡ cond c.definition_provider (put (codes "definitionProvider") definition m4) m4 → definition ≡ boolean true
    → m6 ≡ cond c.completion_provider (put (codes "completionProvider") completion m5) m5 → completion ≡ object no_members
    → m7 ≡ cond c.code_action_provider (put (codes "codeActionProvider") actions m6) m6 → actions ≡ code_action_options
    → m7 ≡ capability_members c
capability_members-from_puts c none m0 m1 m2 m3 m4 m5 m6 m7 sync rename references hover definition completion actions empty e0 d0 e1 d1 e2 d2 e3 e4 d4 e5 d5 e6 d6 e7 d7 =
    let w0 : Members = from_sync in
    let w1 : Members = from_rename c in
    let w2 : Members = from_references c in
    let w3 : Members = from_encoding c in
    let w4 : Members = from_hover c in
    let w5 : Members = from_definition c in
    let w6 : Members = member_where c.completion_provider (codes "completionProvider") (object no_members) w5 in
    let s0 : m0 ≡ w0 = e0 ∙ ap (put (codes "textDocumentSync") sync) empty ∙ ap (λ d. member (codes "textDocumentSync") d no_members) d0 in
    let s1 : m1 ≡ w1 = e1 ∙ put_where c.rename_provider (codes "renameProvider") _ _ m0 w0 d1 s0 refl in
    let f2 : IsInFront (codes "referencesProvider") w1 = before_rename (codes "referencesProvider") c refl refl in
    let s2 : m2 ≡ w2 = e2 ∙ put_where c.references_provider (codes "referencesProvider") _ _ m1 w1 d2 s1 f2 in
    let f3 : IsInFront (codes "positionEncoding") w2 = before_references (codes "positionEncoding") c refl (before_rename (codes "positionEncoding") c refl refl) in
    let s3 : m3 ≡ w3 = e3 ∙ put_encoding c.position_encoding m2 w2 s2 f3 in
    let f4 : IsInFront (codes "hoverProvider") w3 =
    before_encoding (codes "hoverProvider") c refl (before_references (codes "hoverProvider") c refl (before_rename (codes "hoverProvider") c refl refl)) in
    let s4 : m4 ≡ w4 = e4 ∙ put_where c.hover_provider (codes "hoverProvider") _ _ m3 w3 d4 s3 f4 in
    let f5 : IsInFront (codes "definitionProvider") w4 =
    before_hover (codes "definitionProvider") c refl
    (before_encoding (codes "definitionProvider") c refl (before_references (codes "definitionProvider") c refl (before_rename (codes "definitionProvider") c refl refl))) in
    let s5 : m5 ≡ w5 = e5 ∙ put_where c.definition_provider (codes "definitionProvider") _ _ m4 w4 d5 s4 f5 in
    let f6 : IsInFront (codes "completionProvider") w5 =
    before_definition (codes "completionProvider") c refl
    (before_hover (codes "completionProvider") c refl
    (before_encoding (codes "completionProvider") c refl (before_references (codes "completionProvider") c refl (before_rename (codes "completionProvider") c refl refl)))) in
    let s6 : m6 ≡ w6 = e6 ∙ put_where c.completion_provider (codes "completionProvider") _ _ m5 w5 d6 s5 f6 in
    let f7 : IsInFront (codes "codeActionProvider") w6 =
    in_front-where c.completion_provider (codes "codeActionProvider") (codes "completionProvider") (object no_members) w5 refl
    (before_definition (codes "codeActionProvider") c refl
    (before_hover (codes "codeActionProvider") c refl
    (before_encoding (codes "codeActionProvider") c refl (before_references (codes "codeActionProvider") c refl (before_rename (codes "codeActionProvider") c refl refl))))) in
    e7 ∙ put_where c.code_action_provider (codes "codeActionProvider") _ _ m6 w6 d7 s6 f7
