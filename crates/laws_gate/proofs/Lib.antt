-- SPDX-License-Identifier: Apache-2.0
pub mod Access
pub mod Resize
pub mod Orders
