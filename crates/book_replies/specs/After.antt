-- The plain book's reply to a call that comes after a list of calls and restores (contract 8.2 and 13.7).
use Rattle.std.specs.Prelude.{List}
use Rattle.calls.specs.declared.Call.{Call}
use Rattle.calls.specs.Replies.{Reply}
use Rattle.holder_model.specs.Book.{Entry, fresh, answer, book_after}

unfoldable pub reply_to : List Entry → Call → Reply
reply_to xs c = (answer (book_after fresh xs) c).reply
