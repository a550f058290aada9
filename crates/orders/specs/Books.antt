-- The orders of an hour, as the three lists of a book have them.
use Rattle.std.specs.Prelude.{List, [], ◌∷◌}
use Rattle.auction.specs.Hours.{Entry, Book as Orders}
use Rattle.orders.specs.declared.OrderList.{Ghosts as ListMeaning}
use Rattle.orders.specs.declared.book.Book.{Book}
use Rattle.orders.specs.declared.book.LentBook.{LentBook}

-- the entries of three lists, by list and number
abbrev pub book_of : List Entry → List Entry → List Entry → Orders
book_of first second third = first ∷ second ∷ third ∷ []

-- the entries of a book, each list as its kind means it
abbrev pub booked : {X Y W P Q R : Type 0} → ListMeaning X P → ListMeaning Y Q → ListMeaning W R → Book X Y W → Orders
booked x y w b = book_of (x.entries b.first) (y.entries b.second) (w.entries b.third)

-- the same of lists that are lent
abbrev pub lent : {X Y W P Q R : Type 0} → ListMeaning X P → ListMeaning Y Q → ListMeaning W R → LentBook X Y W → Orders
lent x y w b = book_of (x.entries b.first.now) (y.entries b.second.now) (w.entries b.third.now)
