-- What comes to a desk, one after another.
use Rattle.std.specs.Prelude.{◌≡◌, ◌⊎◌, ℕ, List, [], ◌∷◌, Bool, Option, Some, None}
use Rattle.gq_rpc.specs.declared.messages.Incoming.{Incoming}
use Rattle.gq_events.specs.declared.event.Event.{Event}
use Rattle.gq_events.specs.declared.event.Event.TheVariants as event
use Rattle.gq_events.specs.declared.event.LoadedContent.{LoadedContent}
use Rattle.gq_reader.specs.declared.reader.Reader.{Reader}
use Rattle.gq_reader.specs.declared.loads.Loads.{Loads}
use Rattle.gq_reader.specs.declared.fault.RunFault.{RunFault}
use Rattle.gq_reader.specs.declared.fault.RunFault.TheVariants as fault
use Rattle.gq_reader.specs.Inputs.{load_of, closed_by, files_at}
use Rattle.gq_reader.specs.Reader.{View, seen_in, GivesBody, GivesNone}
use Rattle.gq_reader.specs.Loads.{IsToldOf}

-- how it stands: the messages, the files, the keys of those that are to be loaded, and the fault at which loading ended
pub record Box (F : Type 0) : Type 0 where
  pub view : View
  pub files : F
  pub due : List (List ℕ)
  pub told : Option RunFault

abbrev pub boxed : {F : Type 0} → View → F → Loads → Box F
boxed view files loads = record { view = view; files = files; due = loads.keys.items; told = loads.told }

module _ {F : Type 0} (reads : F → List ℕ → LoadedContent → F → Type 0) (failed : F → Bool) (has : F → List ℕ → Bool) where
  -- the next file was loaded
  pub record GivesLoad (a : Box F) (e : Event) (b : Box F) : Type 0 where
    pub key : List ℕ
    pub content : LoadedContent
    pub is : e ≡ load_of key content
    pub due : a.due ≡ key ∷ b.due
    pub read : reads a.files key content b.files
    pub same_view : b.view ≡ a.view
    pub same_told : b.told ≡ a.told
    pub same_failed : failed b.files ≡ failed a.files

  -- the next message was given, and where it closes a document of the folder, that is to be loaded
  pub record GivesMessage (a : Box F) (e : Event) (b : Box F) : Type 0 where
    pub message : Incoming
    pub is : e ≡ event.Message message
    pub none_due : a.due ≡ []
    pub due : b.due ≡ files_at (has a.files) (closed_by message)
    pub gives : GivesBody a.view message b.view
    pub same_told : b.told ≡ a.told
    pub same_files : b.files ≡ a.files

  -- the next file was not loaded
  pub record LacksLoad (a b : Box F) : Type 0 where
    pub key : List ℕ
    pub behind : List (List ℕ)
    pub due : a.due ≡ key ∷ behind
    pub told : IsToldOf b.told (failed a.files) (failed b.files)
    pub same_view : b.view ≡ a.view

  -- memory was refused for the key of the file that is to be loaded behind a message
  pub record LacksKey (a b : Box F) : Type 0 where
    pub none_due : a.due ≡ []
    pub message : Incoming
    pub gives : GivesBody a.view message b.view
    pub told : b.told ≡ Some fault.NoMemory
    pub same_failed : failed b.files ≡ failed a.files

  -- no message was given
  pub record LacksMessage (a b : Box F) : Type 0 where
    pub none_due : a.due ≡ []
    pub gives : GivesNone a.view b.view
    pub same_told : b.told ≡ a.told
    pub same_failed : failed b.files ≡ failed a.files

  abbrev pub ComesSo : Box F → Option Event → Box F → Type 0
  ComesSo a (Some e) b = GivesLoad a e b ⊎ GivesMessage a e b
  ComesSo a None b = LacksLoad a b ⊎ (LacksKey a b ⊎ LacksMessage a b)

  -- one step, which keeps what belongs to the folder
  pub record Comes (a : Box F) (r : Option Event) (b : Box F) : Type 0 where
    pub so : ComesSo a r b
    pub same_has : (key : List ℕ) → has b.files key ≡ has a.files key

-- a step of a reader, which keeps its input and its files
pub record Steps {S F : Type 0} (left : S → Option (List ℕ)) (ended failed : S → Bool) (reads : F → List ℕ → LoadedContent → F → Type 0)
    (files_failed : F → Bool) (has : F → List ℕ → Bool) (a : Reader S F) (r : Option Event) (b : Reader S F) : Type 0 where
  pub same_input : b.input.ghost_name ≡ a.input.ghost_name
  pub same_files : b.files.ghost_name ≡ a.files.ghost_name
  pub comes : Comes reads files_failed has (boxed (seen_in left ended failed a) a.files.now a.loads.now) r (boxed (seen_in left ended failed b) b.files.now b.loads.now)
