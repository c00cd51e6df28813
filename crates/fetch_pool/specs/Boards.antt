-- What contracts see of a board.
use Rattle.std.specs.Prelude.{◌≡◌, true, Option}
use Rattle.cache_store.specs.Stands.{Stands, is_live, parts_of}
use Rattle.cache_store.specs.declared.store.Store.{Store}
use Rattle.disk_base.specs.Names.{Names}
use Rattle.fetch_pool.specs.declared.board.Board.{Board}
use Rattle.file_fetch.specs.Stores.{HasNoParts}
use Rattle.pool_rules.specs.Boards.{Desk}

-- a live store without open parts
pub record IsIdle {D : Type 0} (told : D → Option Names) (store : Store D) : Type 0 where
  pub live : is_live store ≡ true
  pub stands : Stands told store
  pub none : HasNoParts (parts_of store)

module _ {D : Type 0} where
  abbrev pub desk_of : Board D → Desk
  desk_of board = record {
    settings = board.core.settings;
    history = board.core.history;
    caught_up = board.core.caught_up;
    plan = board.plan;
    ended = board.ended;
  }

  -- the same but for what happened, how far the rounds come, and what ended the work
  pub record IsSameBoard (old new : Board D) : Type 0 where
    pub ask : new.core.ask ≡ old.core.ask
    pub settings : new.core.settings ≡ old.core.settings
    pub plan : new.plan ≡ old.plan
    pub store : new.store ≡ old.store
    pub rows : new.parts ≡ old.parts
